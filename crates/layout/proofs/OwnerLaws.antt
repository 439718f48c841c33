-- The rules across a copyright extension's fields, and the parts of its number.
use Rattle.std.proofs.Common.{Ok, Err}
use Prim.Native.Nat.{ℕ, ◌/◌, ◌%◌, ◌^◌, ◌<◌}
use mathlib.Core.Path.{◌≡◌, refl, ap, ◌∙◌}
use mathlib.Core.List.{List}
use mathlib.Core.Logic.{◌↔◌}
use mathlib.Core.Bool.{Bool, ◌&&◌, ◌||◌, not, and-true, and-false}
use native.Mathlib.Omega.{arith}
use Rattle.std.proofs.lemmas.Bool.Decides.{nat_tests}
use borrow.Author.Tests.{eq-eqb, ne_eqb}
use lib.Dec.{eqb}
use lib.ListN.{length, get_or}
use Rattle.layout.specs.Values.{copyright_number, Ownership, ownership}
use Rattle.layout.specs.Reader.{Verdict, both, refuse_if, owner_rules, owned_by}
use Rattle.layout.proofs.LayoutLaws.{spelled}
use Rattle.layout.specs.declared.JudgedField.TheVariants.{CopyrightOwner, CopyrightNumber}
use Rattle.layout.specs.declared.Fault.TheVariants.{Value}

pub unowned_rules : (c : Ownership) {t : Bool} → c.owner ≡ 0 → eqb c.number 0 ≡ t → owner_rules c ≡ refuse_if (not t) (Value CopyrightNumber 22)
unfolding owner_rules
unowned_rules c e n = rw (eq-eqb _ 0 e, n, and-false)

pub owned_rules : (c : Ownership) {t : Bool} → (c.owner ≡ 0 → ⊥) → eqb c.flag 0 ≡ t → owner_rules c ≡ refuse_if t (Value CopyrightOwner 5)
unfolding owner_rules
owned_rules c {t} e f = rw (ne_eqb _ 0 e, f, and-true) (both_fine (refuse_if t (Value CopyrightOwner 5)))
  where
    both_fine : (v : Verdict) → both v (Ok tt) ≡ v
    both_fine (Ok tt) = refl
    both_fine (Err fault) = refl

-- the parts of a copyright number are those whose sum it is
pub number_parts : (n one two three : ℕ) → two < 2 ^ 22 → three < 2 ^ 22 →
    (n ≡ copyright_number one two three) ↔ ((one ≡ n / 2 ^ 44) × (two ≡ n / 2 ^ 22 % 2 ^ 22) × (three ≡ n % 2 ^ 22))
number_parts n one two three h k = ((λ e. (omega arith, omega arith, omega arith)), λ e. omega arith)

-- ── the rules, by the values that they speak of ──

-- a sum of parts, each times a positive number, is not 0 exactly where some part is not
numbered_parts : (one two three : ℕ) → not (eqb (copyright_number one two three) 0) ≡ not (eqb one 0) || (not (eqb two 0) || not (eqb three 0))
numbered_parts one two three = grind (arith, nat_tests)

pub owned_values : (vs : List ℕ) → length vs ≡ 11 →
    owned_by (ownership vs)
    ≡ both (refuse_if (eqb (get_or vs 1 0) 0 && not (eqb (get_or vs 2 0) 0)) (Value CopyrightOwner 5))
    (refuse_if (eqb (get_or vs 2 0) 0 && (not (eqb (get_or vs 6 0) 0) || (not (eqb (get_or vs 8 0) 0) || not (eqb (get_or vs 10 0) 0)))) (Value CopyrightNumber 22))
unfolding ownership owner_rules
owned_values vs h = ap (λ (l : List ℕ). owned_by (ownership l)) (spelled 11 vs h) ∙ rw numbered_parts
