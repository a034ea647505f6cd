use Rattle.std.proofs.Common.{◌≡◌, eqb, List, ℕ, Some}
use Rattle.std.specs.List.{slice_split}
use Rattle.std.specs.Str.Iter.{split_steps}
use Rattle.std.specs.Str.Pattern.{FindsChar}
use Rattle.std.proofs.lemmas.Iterator.{YieldsList}
use Rattle.rule.specs.Ports.{and_all}
use Rattle.rule.proofs.ports.list.Given as goal

-- the words that are to come lead to what the whole list names
abbrev pub invariant-loop-word : goal.invariant-loop-word
invariant-loop-word l =
    (goal.iterator-loop-word).can_next l.word-iterator
    × (goal.iterator-loop-word).is_finite l.word-iterator
    × ((words : List (List ℕ)) × YieldsList (split_steps FindsChar (λ a b. b ≡ a)) (λ x. x.now) l.word-iterator words
    × (and_all (Some l.set) words ≡ and_all (Some 0) (slice_split (λ b. eqb b 44) l.text)))
