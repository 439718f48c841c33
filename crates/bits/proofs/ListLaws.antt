-- The laws of `All`, and of what is left of a list at a place.
use Prim.Native.Nat.{ℕ, zero, suc, ◌+◌, ◌<◌}
use mathlib.Core.Path.{◌≡◌, sym}
use mathlib.Core.List.{List, [], ◌∷◌, ◌++◌}
use native.Mathlib.Numerals.{add-one}
use native.Mathlib.Nat.{zero-add, suc-add}
use lib.ListN.{length, get_or, take, drop}
use lib.Seq.{drop-cons, take-nil}
use Rattle.bits.specs.Lists.{All}

pub all_append : {A : Type 0} (P : A → Type 0) (l m : List A) → All P l → All P m → All P (l ++ m)
all_append P [] m h k = k
all_append P (x ∷ l) m h k = (h.0, all_append P l m h.1 k)

pub all_right : {A : Type 0} (P : A → Type 0) (l m : List A) → All P (l ++ m) → All P m
all_right P [] m h = h
all_right P (x ∷ l) m h = all_right P l m h.1

pub all_map : {A : Type 0} {P Q : A → Type 0} → ((a : A) → P a → Q a) → (l : List A) → All P l → All Q l
all_map f [] h = tt
all_map f (a ∷ l) h = (f a h.0, all_map f l h.1)

-- where P holds of none, it does not hold of the one in the middle
pub absent : {A : Type 0} (P : A → Type 0) (before : List A) (a : A) (after : List A) → All (λ x. ¬ P x) (before ++ a ∷ after) → P a → ⊥
absent P [] a after n p = n.0 p
absent P (b ∷ before) a after n p = absent P before a after n.1 p

pub all_drop : {A : Type 0} (P : A → Type 0) (n : ℕ) (l : List A) → All P l → All P (drop n l)
all_drop P zero l h = h
all_drop P (suc n) [] h = h
all_drop P (suc n) (x ∷ l) h = all_drop P n l h.1

pub all_take : {A : Type 0} (P : A → Type 0) (n : ℕ) (l : List A) → All P l → All P (take n l)
all_take P zero l h = tt
all_take P (suc n) [] h = h
all_take P (suc n) (x ∷ l) h = (h.0, all_take P n l h.1)

-- the element at a place heads what is left there
pub at_head : {A : Type 0} (l : List A) (i : ℕ) (d : A) → i < length l → drop i l ≡ get_or l i d ∷ drop (i + 1) l
at_head l i d h = rw add-one (drop-cons l i d h)

-- what is left of a part is a part of what is left
pub drop_take : (n m : ℕ) (l : List ℕ) → drop n (take (n + m) l) ≡ take m (drop n l)
drop_take zero m l = rw zero-add
drop_take (suc n) m [] = rw (suc-add n m) (sym (take-nil m))
drop_take (suc n) m (b ∷ l) = rw (suc-add n m) (drop_take n m l)
