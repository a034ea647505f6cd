use Rattle.std.proofs.Common.{rules, ◌+◌, ◌/◌, ◌^◌, inr, arith, codes}
use Rattle.std.specs.Int.{trailing_zeros, w64}
use Rattle.std.proofs.Output.{has_written_append, has_written_of_eq}
use Rattle.std.proofs.lemmas.Nat.{one_shl, pow_pos}
use Rattle.text.specs.Texts.{decimal_text}
use Rattle.text.specs.Answers.{ports_below}
use Rattle.text.proofs.Ports.{next_port, first_port, later_port, last_port}
use Rattle.text.proofs.display.PortsDisplay.fmt.Goals as goal
use Rattle.text.proofs.display.PortsDisplay.fmt.Goals.{then-set-port-ne0+in_ok-write_str, else-set-port-ne0}

pub loop-below-init : goal.loop-below-init
unfolding ports_below
loop-below-init g c = search rules

pub overflow_shl-port : goal.overflow_shl-port
overflow_shl-port g c = (next_port c.args.self.now.0 c.loop-below.below (omega arith) c.if-set-below-ne0.true).is_port

pub nonzero_rem-set : goal.nonzero_rem-set
nonzero_rem-set g c =
    let set = c.args.self.now.0 in
    let below = c.loop-below.below in
    let port = below + trailing_zeros w64 (set / 2 ^ below) in
    let next = next_port set below (omega arith) c.if-set-below-ne0.true in
    omega (arith, one_shl port 64 next.is_port, pow_pos port)

pub loop-below-preserved : goal.loop-below-preserved
unfolding decimal_text
loop-below-preserved g c =
    let set = c.args.self.now.0 in
    let below = c.loop-below.below in
    let port = below + trailing_zeros w64 (set / 2 ^ below) in
    let next = next_port set below (omega arith) c.if-set-below-ne0.true in
    let one = one_shl port 64 next.is_port in (
      omega (arith, next.is_port),
      λ plain. elim c.if-set-port-ne0.branch [
        | then-set-port-ne0+in_ok-write_str w ↦
            has_written_of_eq _ _ _ _ _ (later_port set below port _ next one w.if-set-port-ne0.true)
            (has_written_append _ _ _ c.if-set-port-ne0.f (decimal_text port) _ (has_written_append _ _ _ _ (codes ",") c.if-set-port-ne0.f (c.loop-below.invariant.1 plain) (search rules)) (search rules))
        | else-set-port-ne0 w ↦
            has_written_of_eq _ _ _ _ _ (first_port set below port _ next one w.if-set-port-ne0.false)
            (has_written_append _ _ _ _ _ _ (c.loop-below.invariant.1 plain) (search rules))
      ],
    )

pub returns-else-set-below-ne0-clause-writes : goal.returns-else-set-below-ne0-clause-writes
returns-else-set-below-ne0-clause-writes g c = λ plain ok.
    has_written_of_eq _ _ _ _ _ (last_port c.args.self.now.0 c.loop-below.below c.loop-below.invariant.0 (inr c.if-set-below-ne0.false) c.if-set-eq0.false) (c.loop-below.invariant.1 plain)
