-- A 00 00 01 among the bytes of units stands at a unit's start, whatever stands before it.
use Prim.Native.Nat.{ℕ}
use mathlib.Core.Path.{◌≡◌, refl, sym, ◌∙◌, ap}
use mathlib.Core.Logic.{inl, inr}
use mathlib.Core.List.{List, [], ◌∷◌, ◌++◌, append-nil}
use native.Mathlib.Omega.{arith}
use Rattle.bits.specs.Lists.{All}
use Rattle.grammar.specs.Lists.{concat_map}
use Rattle.grammar.specs.Grammar.{StreamUnit, bytes, Alone}
use Rattle.grammar.proofs.Unique.{compare_prefixes, code_between}

-- these bytes are those of the units before one
pub record Starts (us : List StreamUnit) (p : List ℕ) : Type 0 where
  pub before : List StreamUnit
  pub unit : StreamUnit
  pub after : List StreamUnit
  pub divided : us ≡ before ++ unit ∷ after
  pub bytes_are : p ≡ concat_map bytes before

-- right after a unit's bytes it is the start of the next
next_starts : (u : StreamUnit) (us : List StreamUnit) (p after : List ℕ) → p ≡ bytes u → 0 ∷ 0 ∷ 1 ∷ after ≡ concat_map bytes us → Starts (u ∷ us) p
next_starts u [] p after l e = let z : ◌≡◌ {A = ℕ} 0 1 = cc in absurd (omega arith)
next_starts u (v ∷ vs) p after l e = record { before = u ∷ []; unit = v; after = vs; divided = refl; bytes_are = l ∙ sym (append-nil (bytes u)) }

-- in a unit's bytes it is the unit's start, at their end that of the next
inside : (u : StreamUnit) (us : List StreamUnit) (p after mid : List ℕ) → Alone u → bytes u ≡ p ++ mid → 0 ∷ 0 ∷ 1 ∷ after ≡ mid ++ concat_map bytes us → Starts (u ∷ us) p
inside u us p after mid a l e = elim (code_between mid after us e) [
  | inl none ↦ next_starts u us p after (sym (l ∙ ap (λ (t : List ℕ). p ++ t) none ∙ append-nil p)) (e ∙ ap (λ (t : List ℕ). t ++ concat_map bytes us) none)
  | inr m ↦ record { before = []; unit = u; after = us; divided = refl; bytes_are = a p m.0 (l ∙ ap (λ (t : List ℕ). p ++ t) m.1) }
]

pub prefix_starts : (us : List StreamUnit) → All Alone us → (p after : List ℕ) → concat_map bytes us ≡ p ++ 0 ∷ 0 ∷ 1 ∷ after → Starts us p
prefix_starts [] a [] after e = let z : ◌≡◌ {A = ℕ} 0 1 = cc in absurd (omega arith)
prefix_starts [] a (x ∷ p) after e = let z : ◌≡◌ {A = ℕ} 0 1 = cc in absurd (omega arith)
prefix_starts (u ∷ us) a p after e = elim (compare_prefixes (bytes u) (concat_map bytes us) p (0 ∷ 0 ∷ 1 ∷ after) e) [
  | inl s ↦ let r = prefix_starts us a.1 s.mid after s.rest in
      record { before = u ∷ r.before; unit = r.unit; after = r.after; divided = ap (λ (l : List StreamUnit). u ∷ l) r.divided; bytes_are = s.longer ∙ ap (λ (l : List ℕ). bytes u ++ l) r.bytes_are }
  | inr s ↦ inside u us p after s.mid a.0 s.longer s.rest
]
