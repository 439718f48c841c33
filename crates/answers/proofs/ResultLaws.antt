-- The laws of results: a value or a reason and not both, and what a result came from.
use Prim.Native.Nat.{ℕ}
use mathlib.Core.Path.{◌≡◌, refl}
use native.Mathlib.Omega.{arith}
use Rattle.std.specs.Prelude.{Result, Ok, Err}
use Rattle.answers.specs.Results.{◌>>=◌, map_ok}

pub not_ok : {E A P : Type 0} {why : E} {a : A} → ◌≡◌ {A = Result A E} (Err why) (Ok a) → P
not_ok e = let z : ◌≡◌ {A = ℕ} 0 1 = cc in absurd (omega arith)

pub not_err : {E A P : Type 0} {why : E} {a : A} → ◌≡◌ {A = Result A E} (Ok a) (Err why) → P
not_err e = let z : ◌≡◌ {A = ℕ} 0 1 = cc in absurd (omega arith)

pub ok_same : {E A : Type 0} {a b : A} → ◌≡◌ {A = Result A E} (Ok a) (Ok b) → a ≡ b
ok_same e = cc

pub err_same : {E A : Type 0} {why other : E} → ◌≡◌ {A = Result A E} (Err why) (Err other) → why ≡ other
err_same e = cc

-- ── one step after another ──

pub bind_ok : {E A B : Type 0} (r : Result A E) (next : A → Result B E) (b : B) → (r >>= next) ≡ Ok b → (a : A) × (r ≡ Ok a) × (next a ≡ Ok b)
bind_ok (Ok a) next b e = (a, refl, e)
bind_ok (Err why) next b e = not_ok e

pub map_ok_lem : {E A B : Type 0} (f : A → B) (r : Result A E) (b : B) → map_ok f r ≡ Ok b → (a : A) × (r ≡ Ok a) × (f a ≡ b)
map_ok_lem f (Ok a) b e = (a, refl, ok_same e)
map_ok_lem f (Err why) b e = not_ok e

pub map_err : {E A B : Type 0} (f : A → B) (r : Result A E) (why : E) → map_ok f r ≡ Err why → r ≡ Err why
map_err f (Ok a) why e = not_err e
map_err f (Err other) why e = let i : other ≡ why = err_same e in rw i
