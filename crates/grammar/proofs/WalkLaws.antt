-- The walk by index: what is left of it at an offset where a unit begins, one unit at a time.
use Rattle.std.proofs.Common.{Ok}
use Prim.Native.Nat.{ℕ, suc, ◌≤◌, ◌<◌, ◌+◌, ◌-◌}
use mathlib.Core.Path.{◌≡◌, refl, sym, ◌∙◌, ap}
use mathlib.Core.List.{List, [], ◌∷◌}
use mathlib.Core.Bool.{true, false, cond}
use lib.ListN.{length, get_or, take, drop, length-drop, length-take}
use lib.Seq.{drop-cons, drop-drop, drop-length, take-append_seam}
use native.Mathlib.Omega.{arith}
use Rattle.bits.proofs.TestLaws.{by_test}
use Rattle.startcode.specs.Prefix.{begins, before, next_prefix}
use Rattle.startcode.proofs.PrefixLaws.{before_hit, before_miss, before_le, before_found, search_start}
use Rattle.grammar.specs.Lists.{concat_map}
use Rattle.grammar.specs.Grammar.{StreamUnit, bytes}
use Rattle.grammar.specs.Reader.{Cut, cut, final, is_nil, Walk, stop_at, walk_from}
use Rattle.grammar.specs.declared.State.{State}
use Rattle.grammar.specs.declared.Reason.TheVariants.{Unended}
use Rattle.grammar.proofs.CutLaws.{cut_law, rebuilt, prefixed, begins_true}

-- what is left of the walk in state q, at offset `at`
unfoldable pub left : List ℕ → State → ℕ → Walk
left s q at = walk_from (cut (drop at s)).chunks q at

-- ── cutting at the end of the front ──

-- what is cut before the first 00 00 01 is the bytes before it
front_before : (l : List ℕ) → length (cut l).front ≡ before l
unfolding cut before
front_before [] = refl
front_before (x ∷ l) = let r = front_before l in by_test (begins (x ∷ l)) (λ t. rw t) (λ f. rw f (ap suc r))

Rest : List ℕ → Type 0
Rest l = cut (drop (before l) l) ≡ record { front = []; chunks = (cut l).chunks }

rest_here : (x : ℕ) (xs : List ℕ) → begins (x ∷ xs) ≡ true → Rest (x ∷ xs)
unfolding cut Rest
rest_here x xs e = ap (λ (n : ℕ). cut (drop n (x ∷ xs))) (before_hit x xs e) ∙ (λ i. record { front = front_is i; chunks = (cut (x ∷ xs)).chunks })
  where
    front_is : (cut (x ∷ xs)).front ≡ []
    front_is = rw e

rest_more : (x : ℕ) (xs : List ℕ) → begins (x ∷ xs) ≡ false → Rest xs → Rest (x ∷ xs)
unfolding Rest
rest_more x xs e h = ap (λ (n : ℕ). cut (drop n (x ∷ xs))) (before_miss x xs e) ∙ h ∙ (λ i. record { front = []; chunks = same i })
  where
    same : (cut xs).chunks ≡ (cut (x ∷ xs)).chunks
    same = unfold cut in rw e

rest_is : (l : List ℕ) → Rest l
unfolding Rest cut before
rest_is [] = refl
rest_is (x ∷ xs) = let h = rest_is xs in by_test (begins (x ∷ xs)) (λ t. rest_here x xs t) (λ f. rest_more x xs f h)

front_take : (l : List ℕ) → (cut l).front ≡ take (before l) l
front_take l =
    sym (take-append_seam (cut l).front (concat_map prefixed (cut l).chunks)) ∙ ap (take (length (cut l).front)) (sym (rebuilt l)) ∙ ap (λ (n : ℕ). take n l) (front_before l)

-- ── at a 00 00 01 ──

pub after_prefix : (s : List ℕ) (at : ℕ) → begins (drop at s) ≡ true → drop at s ≡ 0 ∷ 0 ∷ 1 ∷ drop (at + 3) s
after_prefix s at b = let r = begins_true (drop at s) b in r.1 ∙ ap (λ (l : List ℕ). 0 ∷ 0 ∷ 1 ∷ l) (sym (ap (drop 3) r.1) ∙ drop-drop 3 at s)

pub prefix_fits : (s : List ℕ) (at : ℕ) → begins (drop at s) ≡ true → at + 3 ≤ length s
prefix_fits s at b = omega (arith, simp length-drop at (ap length (after_prefix s at b)))

pub chunks_at : (s : List ℕ) (at : ℕ) → begins (drop at s) ≡ true → (cut (drop at s)).chunks ≡ (cut (drop (at + 3) s)).front ∷ (cut (drop (at + 3) s)).chunks
chunks_at s at b = rw (after_prefix s at b, cut_law)

pub left_end : (s : List ℕ) (q : State) → left s q (length s) ≡ cond (final q) (Ok []) (stop_at Unended (length s))
unfolding left walk_from cut
left_end s q = rw drop-length

-- the chunk of a prefix with no code byte after it, of one that another prefix follows at once, and of a unit
pub chunks_cut : (s : List ℕ) (at : ℕ) → begins (drop at s) ≡ true → at + 3 ≡ length s → (cut (drop at s)).chunks ≡ [] ∷ []
unfolding cut
chunks_cut s at b e = chunks_at s at b ∙ ap (λ (l : List ℕ). (cut l).front ∷ (cut l).chunks) (ap (λ (n : ℕ). drop n s) e ∙ drop-length s)

pub chunks_overlap : (s : List ℕ) (at : ℕ) → begins (drop at s) ≡ true → begins (drop (at + 3) s) ≡ true →
    (cut (drop at s)).chunks ≡ [] ∷ (cut (drop (at + 3) s)).chunks
chunks_overlap s at b b' =
    chunks_at s at b
    ∙ ap (λ (c : Cut). c.front ∷ (cut (drop (at + 3) s)).chunks) (ap cut (after_prefix s (at + 3) b') ∙ cut_law (drop (at + 3 + 3) s))

-- chunks that begin a 00 00 01 are not none
pub chunks_some : (s : List ℕ) (at : ℕ) → begins (drop at s) ≡ true → is_nil (cut (drop at s)).chunks ≡ false
chunks_some s at b = ap is_nil (chunks_at s at b)

-- the unit between `at` and `next`
abbrev pub unit_between : List ℕ → ℕ → ℕ → StreamUnit
unit_between s at next = record { code = get_or s (at + 3) 0; body = take (next - (at + 4)) (drop (at + 4) s) }

module _ (s : List ℕ) (at : ℕ) (b : begins (drop at s) ≡ true) (h : at + 3 < length s) (b' : begins (drop (at + 3) s) ≡ false) where
  pub next_is : next_prefix s (at + 3) ≡ at + 3 + before (drop (at + 3) s)
  next_is = let e = search_start s (at + 3) in omega arith

  head_is : drop (at + 3) s ≡ get_or s (at + 3) 0 ∷ drop (at + 4) s
  head_is = let e : suc (at + 3) ≡ at + 4 = omega arith in drop-cons s (at + 3) 0 h ∙ ap (λ (n : ℕ). get_or s (at + 3) 0 ∷ drop n s) e

  before_is : before (drop (at + 3) s) ≡ suc (before (drop (at + 4) s))
  before_is = ap before head_is ∙ before_miss _ _ (sym (ap begins head_is) ∙ b')

  pub next_fits : (at + 4 ≤ next_prefix s (at + 3)) × (next_prefix s (at + 3) ≤ length s)
  next_fits =
      let n = next_is in
      let m = before_is in
      let l = before_le (drop (at + 3) s) in
      let d = length-drop (at + 3) s in
      (omega arith, omega arith)

  front_is : (cut (drop (at + 3) s)).front ≡ get_or s (at + 3) 0 ∷ (unit_between s at (next_prefix s (at + 3))).body
  front_is =
      let n = next_is in
      let m = before_is in
      let k : before (drop (at + 4) s) ≡ next_prefix s (at + 3) - (at + 4) = omega arith in
      front_take (drop (at + 3) s) ∙ ap (λ (x : ℕ). take x (drop (at + 3) s)) before_is ∙ ap (take (suc (before (drop (at + 4) s)))) head_is
      ∙ ap (λ (x : ℕ). get_or s (at + 3) 0 ∷ take x (drop (at + 4) s)) k

  rest_chunks : (cut (drop (at + 3) s)).chunks ≡ (cut (drop (next_prefix s (at + 3)) s)).chunks
  unfolding Rest
  rest_chunks =
      sym (ap (λ (c : Cut). c.chunks) (ap cut (ap (λ (n : ℕ). drop n s) next_is ∙ sym (drop-drop (before (drop (at + 3) s)) (at + 3) s)) ∙ rest_is (drop (at + 3) s)))

  pub chunks_unit : let u = unit_between s at (next_prefix s (at + 3)) in
      (cut (drop at s)).chunks ≡ (u.code ∷ u.body) ∷ (cut (drop (next_prefix s (at + 3)) s)).chunks
  chunks_unit = chunks_at s at b ∙ ap (λ (f : List ℕ). f ∷ (cut (drop (at + 3) s)).chunks) front_is ∙ ap (λ (cs : List (List ℕ)). (get_or s (at + 3) 0 ∷ (unit_between s at (next_prefix s (at + 3))).body) ∷ cs) rest_chunks

  pub unit_ends : at + length (bytes (unit_between s at (next_prefix s (at + 3)))) ≡ next_prefix s (at + 3)
  unit_ends = let f = next_fits in simp (length-take, length-drop) (omega (arith, f.0, f.1))

  -- where the next unit begins, or the end
  pub next_begins : next_prefix s (at + 3) < length s → begins (drop (next_prefix s (at + 3)) s) ≡ true
  next_begins k =
      let d = length-drop (at + 3) s in
      let n = next_is in
      ap (λ (x : ℕ). begins (drop x s)) next_is ∙ ap begins (sym (drop-drop (before (drop (at + 3) s)) (at + 3) s)) ∙ before_found (drop (at + 3) s) (omega arith)
