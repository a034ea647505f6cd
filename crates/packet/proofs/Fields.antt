-- The fields that IPv4, TCP and UDP fill, as bytes of the key.
use Rattle.std.proofs.Common.{◌≡◌, ℕ, List, [], ◌∷◌}
use Rattle.std.specs.List.{flat_map}

-- eight fields, laid out one behind the other
abbrev pub lay : (a b c d : ℕ) (e f g h : List ℕ) → List ℕ
lay a b c d e f g h = flat_map (λ x. x) ((a ∷ []) ∷ (b ∷ []) ∷ (c ∷ []) ∷ (d ∷ []) ∷ e ∷ f ∷ g ∷ h ∷ [])

pub lay_same : (a b c d : ℕ) (e f g h : List ℕ) (a' b' c' d' : ℕ) (e' f' g' h' : List ℕ) → a ≡ a' → b ≡ b' → c ≡ c' → d ≡ d' → e ≡ e' → f ≡ f' → g ≡ g' → h ≡ h' → lay a b c d e f g h ≡ lay a' b' c' d' e' f' g' h'
lay_same a b c d e f g h a' b' c' d' e' f' g' h' p q r s t u v w = cc
