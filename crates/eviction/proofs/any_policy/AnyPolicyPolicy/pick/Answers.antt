use Rattle.std.proofs.Common.{◌≡◌, ℕ, true, false, sym, subst, rules, MatchOption}
use Rattle.eviction.specs.Kinds.{any_filled}
use Rattle.eviction.proofs.any_policy.AnyPolicyPolicy.pick.Goals as goal

pub returns-in-Fifo : goal.returns-in-Fifo
returns-in-Fifo c =
    record {
      set = search rules;
      named = subst (λ p. MatchOption c.pick.result ((i : ℕ) → any_filled p i ≡ false) (λ s. any_filled p s ≡ true)) (sym c.in-Fifo.is) c.pick.ensures.named;
      picked = search rules;
      state = search rules;
    }

pub returns-in-Clock : goal.returns-in-Clock
returns-in-Clock c =
    record {
      set = search rules;
      named = subst (λ p. MatchOption c.pick-in-Clock.result ((i : ℕ) → any_filled p i ≡ false) (λ s. any_filled p s ≡ true)) (sym c.in-Clock.is) c.pick-in-Clock.ensures.named;
      picked = search rules;
      state = search rules;
    }
