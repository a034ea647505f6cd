-- What a switch counts of the frames that it decides.
use Rattle.std.specs.Prelude.{ℕ, Bool, cond, ◌==◌, nat_lt}
use Rattle.classifier.specs.Tables.{plus}
use Rattle.switch.specs.declared.totals.Totals.{Totals}

-- a total, one higher if the test holds, modulo 2^64
abbrev pub tally : Bool → ℕ → ℕ
tally b n = cond b (plus n 1) n

-- the totals after a frame that was decided at this depth
abbrev pub after_frame : Totals → ℕ → Totals
after_frame t d =
    record {
      frames = plus t.frames 1;
      depth1 = tally (d == 1) t.depth1;
      depth2 = tally (d == 2) t.depth2;
      deeper = tally (nat_lt 2 d) t.deeper;
    }

-- the totals of a new switch
abbrev pub none_yet : Totals
none_yet = record { frames = 0; depth1 = 0; depth2 = 0; deeper = 0 }
