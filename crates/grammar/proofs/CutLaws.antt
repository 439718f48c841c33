-- Cutting a stream at each 00 00 01 gives its units, and only a list of units is cut so.
use Prim.Native.Nat.{ℕ}
use mathlib.Core.Path.{◌≡◌, refl, sym, ◌∙◌, ap}
use mathlib.Core.List.{List, [], ◌∷◌, ◌++◌, map}
use mathlib.Core.Bool.{Bool, true, false, ◌&&◌}
use lib.ListN.{drop}
use lib.Dec.{eqb}
use borrow.Author.Tests.{eqb-true}
use native.Mathlib.Omega.{arith}
use Rattle.bits.specs.Lists.{All}
use Rattle.std.proofs.lemmas.Bool.{and_parts}
use Rattle.grammar.specs.Lists.{concat_map}
use Rattle.grammar.specs.Grammar.{StreamUnit, bytes, Alone}
use Rattle.startcode.specs.Prefix.{begins}
use Rattle.grammar.specs.Reader.{no_cut, cut}

unfoldable pub No001 : List ℕ → Type 0
No001 b = (before after : List ℕ) → b ≡ before ++ 0 ∷ 0 ∷ 1 ∷ after → ⊥

abbrev pub chunk : StreamUnit → List ℕ
chunk u = u.code ∷ u.body

pub alone_chunk : (u : StreamUnit) → Alone u → No001 (chunk u)
unfolding No001
alone_chunk u a p s e = let n : ◌≡◌ {A = List ℕ} (0 ∷ 0 ∷ 1 ∷ p) [] = a (0 ∷ 0 ∷ 1 ∷ p) s (cc) in let z : ◌≡◌ {A = ℕ} 0 1 = cc in omega arith

pub chunk_alone : (u : StreamUnit) → No001 (chunk u) → Alone u
unfolding No001
chunk_alone u n [] s e = refl
chunk_alone u n (a ∷ []) s e = cc
chunk_alone u n (a ∷ b ∷ []) s e = cc
chunk_alone u n (a ∷ b ∷ c ∷ p) s e = absurd (n p s (cc))

pub begins_true : (l : List ℕ) → begins l ≡ true → (r : List ℕ) × (l ≡ 0 ∷ 0 ∷ 1 ∷ r)
unfolding begins
begins_true [] e = ([], cc)
begins_true (a ∷ []) e = ([], cc)
begins_true (a ∷ b ∷ []) e = ([], cc)
begins_true (a ∷ b ∷ c ∷ r) e =
    let p = and_parts (eqb a 0) (eqb b 0 && eqb c 1) e in
    let q = and_parts (eqb b 0) (eqb c 1) p.1 in
    let x = eqb-true a 0 p.0 in let y = eqb-true b 0 q.0 in let z = eqb-true c 1 q.1 in
    (r, cc)

-- the law of cutting at a 00 00 01
pub cut_law : (r : List ℕ) → cut (0 ∷ 0 ∷ 1 ∷ r) ≡ record { front = []; chunks = (cut r).front ∷ (cut r).chunks }
unfolding cut begins
cut_law [] = refl
cut_law (a ∷ []) = refl
cut_law (a ∷ b ∷ r) = refl

-- ── units are cut to units ──

no_begin : (x : ℕ) (b : List ℕ) (us : List StreamUnit) → No001 (x ∷ b) → begins (x ∷ b ++ concat_map bytes us) ≡ true → ⊥
unfolding No001
no_begin x b us n t = by_shape b us n (begins_true (x ∷ b ++ concat_map bytes us) t)
  where
    by_shape : (b : List ℕ) (us : List StreamUnit) → No001 (x ∷ b) → ((r : List ℕ) × (x ∷ b ++ concat_map bytes us ≡ 0 ∷ 0 ∷ 1 ∷ r)) → ⊥
    by_shape [] [] n r = let e = r.1 in let z : ◌≡◌ {A = ℕ} 0 1 = cc in omega arith
    by_shape [] (u ∷ us) n r = let e = r.1 in let z : ◌≡◌ {A = ℕ} 0 1 = cc in omega arith
    by_shape (y ∷ []) [] n r = let e = r.1 in let z : ◌≡◌ {A = ℕ} 0 1 = cc in omega arith
    by_shape (y ∷ []) (u ∷ us) n r = let e = r.1 in let z : ◌≡◌ {A = ℕ} 0 1 = cc in omega arith
    by_shape (y ∷ z ∷ b) us n r = let e = r.1 in n [] b (cc)

pub suffix_clean : (x : ℕ) (b : List ℕ) → No001 (x ∷ b) → No001 b
unfolding No001
suffix_clean x b n p s e = n (x ∷ p) s (cc)

not_true_is_false : (b : Bool) → (b ≡ true → ⊥) → b ≡ false
not_true_is_false true f = absurd (f refl)
not_true_is_false false f = refl

cut_body : (b : List ℕ) (us : List StreamUnit) → No001 b → cut (concat_map bytes us) ≡ record { front = []; chunks = map chunk us } → cut (b ++ concat_map bytes us) ≡ record { front = b; chunks = map chunk us }
unfolding cut
cut_body [] us n h = h
cut_body (x ∷ b) us n h = rw (not_true_is_false _ (no_begin x b us n)) (ap (no_cut x) (cut_body b us (suffix_clean x b n) h))

pub cut_units : (us : List StreamUnit) → All Alone us → cut (concat_map bytes us) ≡ record { front = []; chunks = map chunk us }
unfolding cut
cut_units [] a = refl
cut_units (u ∷ us) a = cut_law (chunk u ++ concat_map bytes us) ∙ rw (cut_body (chunk u) us (alone_chunk u a.0) (cut_units us a.1))

-- ── what is cut was units ──

abbrev pub prefixed : List ℕ → List ℕ
prefixed c = 0 ∷ 0 ∷ 1 ∷ c

-- what is cut after the first 0 of a 00 00 01 begins 0 1
second : (xs r : List ℕ) → xs ≡ 0 ∷ 1 ∷ r → (cut xs).front ≡ 0 ∷ 1 ∷ drop 2 (cut xs).front
unfolding cut begins
second xs r e = rw e (by_shape r)
  where
    by_shape : (r : List ℕ) → (cut (0 ∷ 1 ∷ r)).front ≡ 0 ∷ 1 ∷ drop 2 (cut (0 ∷ 1 ∷ r)).front
    by_shape [] = refl
    by_shape (a ∷ []) = refl
    by_shape (a ∷ b ∷ r) = refl

pub rebuilt : (s : List ℕ) → s ≡ (cut s).front ++ concat_map prefixed (cut s).chunks
unfolding cut
rebuilt [] = refl
rebuilt (x ∷ xs) = by_test (begins (x ∷ xs)) refl (rebuilt xs)
  where
    by_test : (t : Bool) → begins (x ∷ xs) ≡ t → xs ≡ (cut xs).front ++ concat_map prefixed (cut xs).chunks → x ∷ xs ≡ (cut (x ∷ xs)).front ++ concat_map prefixed (cut (x ∷ xs)).chunks
    by_test true e h =
        let b = begins_true (x ∷ xs) e in let l = b.1 in
        let f = second xs b.0 (cc) in
        let z : x ≡ 0 = cc in
        rw (e, z) (ap (λ (l : List ℕ). 0 ∷ l) (h ∙ ap (λ (l : List ℕ). l ++ concat_map prefixed (cut xs).chunks) f))
    by_test false e h = rw e (cc)

clean_drop : (l : List ℕ) → No001 l → No001 (drop 2 l)
clean_drop [] n = n
clean_drop (a ∷ []) n = suffix_clean a [] n
clean_drop (a ∷ b ∷ l) n = suffix_clean b l (suffix_clean a (b ∷ l) n)

nil_clean : No001 []
unfolding No001
nil_clean [] s e = let z : ◌≡◌ {A = ℕ} 0 1 = cc in omega arith
nil_clean (a ∷ p) s e = let z : ◌≡◌ {A = ℕ} 0 1 = cc in omega arith

cons_clean : (x : ℕ) (xs : List ℕ) → begins (x ∷ xs) ≡ false → No001 (cut xs).front → No001 (x ∷ (cut xs).front)
unfolding No001 begins
cons_clean x xs e n [] s d = let r = rebuilt xs in let y : x ∷ xs ≡ 0 ∷ 0 ∷ 1 ∷ (s ++ concat_map prefixed (cut xs).chunks) = cc in let z : true ≡ false = sym (ap begins y) ∙ e in let z' : ◌≡◌ {A = ℕ} 0 1 = cc in omega arith
cons_clean x xs e n (a ∷ p) s d = n p s (cc)

pub cleaned : (s : List ℕ) → No001 (cut s).front × All No001 (cut s).chunks
unfolding cut
cleaned [] = (nil_clean, tt)
cleaned (x ∷ xs) = by_test (begins (x ∷ xs)) refl (cleaned xs)
  where
    by_test : (t : Bool) → begins (x ∷ xs) ≡ t → No001 (cut xs).front × All No001 (cut xs).chunks → No001 (cut (x ∷ xs)).front × All No001 (cut (x ∷ xs)).chunks
    by_test true e h = rw e (nil_clean, (clean_drop _ h.0, h.1))
    by_test false e h = rw e (cons_clean x xs e h.0, h.1)

units_alone : (us : List StreamUnit) → All No001 (map chunk us) → All Alone us
units_alone [] h = tt
units_alone (u ∷ us) h = (chunk_alone u h.0, units_alone us h.1)

pub prefixed_units : (us : List StreamUnit) → concat_map prefixed (map chunk us) ≡ concat_map bytes us
prefixed_units [] = refl
prefixed_units (u ∷ us) = rw (prefixed_units us)

-- a stream that begins 00 00 01 and is cut into these units is these units
pub uncut : (s : List ℕ) (us : List StreamUnit) → begins s ≡ true → (cut s).chunks ≡ map chunk us → (concat_map bytes us ≡ s) × All Alone us
uncut s us b e = (sym (rebuilt s ∙ rw (front, e, prefixed_units us)), units_alone us (rw e at (cleaned s).1))
  where
    front : (cut s).front ≡ []
    front = let r = begins_true s b in rw (r.1, cut_law)
