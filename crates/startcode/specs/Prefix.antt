-- "The body runs to the next 00 00 01, .. or to the stream's end": where 00 00 01 stands.
use Rattle.std.specs.Prelude.{ℕ, suc, ◌+◌, ◌≤◌, ◌<◌, ◌≡◌, List, [], ◌∷◌, Bool, true, false, cond, ◌&&◌, length, take, drop, eqb}

-- 00 00 01 stands at the head; fewer than three bytes are none
unfoldable pub begins : List ℕ → Bool
begins [] = false
begins (a ∷ []) = false
begins (a ∷ b ∷ []) = false
begins (a ∷ b ∷ c ∷ bytes) = eqb a 0 && (eqb b 0 && eqb c 1)

-- the number of bytes before the first 00 00 01, or of all where there is none
unfoldable pub before : List ℕ → ℕ
before [] = 0
before (a ∷ bytes) = cond (begins (a ∷ bytes)) 0 (suc (before bytes))

-- the place of the next 00 00 01 at or after `from`, or the stream's end
unfoldable pub next_prefix : List ℕ → ℕ → ℕ
next_prefix stream from = length (take from stream) + before (drop from stream)

-- what that place is: the first at or after `from` where 00 00 01 stands, or the stream's end where there is none, so also
-- where `from` is at the end or past it
pub record First (stream : List ℕ) (from place : ℕ) : Type 0 where
  pub within : place ≤ length stream
  pub after : from ≤ length stream → from ≤ place
  pub at_end : length stream ≤ from → place ≡ length stream
  pub stands : place < length stream → begins (drop place stream) ≡ true
  pub none_before : (k : ℕ) → from ≤ k → k < place → begins (drop k stream) ≡ false

-- E3, "look at the third byte first and step by up to three": how many steps the search takes. While three bytes are left it takes
-- one, which ends it at 00 00 01, else goes past one place where the third byte is 00 and past three where it is not.
unfoldable pub steps : List ℕ → ℕ
steps [] = 0
steps (a ∷ []) = 0
steps (a ∷ b ∷ []) = 0
steps (a ∷ b ∷ c ∷ bytes) = suc (cond (begins (a ∷ b ∷ c ∷ bytes)) 0 (cond (eqb c 0) (steps (b ∷ c ∷ bytes)) (steps bytes)))
