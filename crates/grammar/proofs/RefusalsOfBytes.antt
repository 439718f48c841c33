-- Cutting a stream whose first units are followed by other bytes.
use Prim.Native.Nat.{ℕ}
use mathlib.Core.Path.{◌≡◌, refl, sym, ◌∙◌, ap}
use mathlib.Core.Logic.{◌⊎◌, inl, inr, ◌↔◌}
use mathlib.Core.List.{List, [], ◌∷◌, ◌++◌, map, append_assoc}
use mathlib.Core.Bool.{true, false}
use native.Mathlib.Omega.{arith}
use Rattle.bits.specs.Lists.{All}
use Rattle.bits.proofs.TestLaws.{by_test}
use Rattle.startcode.specs.Prefix.{begins}
use Rattle.grammar.specs.Lists.{concat_map}
use Rattle.grammar.specs.Grammar.{StreamUnit, bytes, Alone}
use Rattle.grammar.specs.Reader.{Cut, no_cut, cut}
use Rattle.grammar.specs.Refusals.{HasCode}
use Rattle.grammar.proofs.ListLaws.{concat_append}
use Rattle.grammar.proofs.CutLaws.{No001, chunk, prefixed, prefixed_units, alone_chunk, chunk_alone, suffix_clean, begins_true, cut_law, rebuilt, cleaned}

-- the stream's end, or 00 00 01
abbrev pub Edge : List ℕ → Type 0
Edge left = (left ≡ []) ⊎ HasCode left

pub begins_iff : (s : List ℕ) → (begins s ≡ true) ↔ HasCode s
unfolding begins
begins_iff s = (begins_true s, λ h. rw h.1 refl)

pub not_begins_iff : (s : List ℕ) → (begins s ≡ false) ↔ (¬ HasCode s)
not_begins_iff s = (
  (λ f h. let t = (begins_iff s).1 h in let z : ◌≡◌ {A = ℕ} 0 1 = cc in omega arith),
  λ n. by_test (begins s) (λ t. absurd (n ((begins_iff s).0 t))) (λ f. f),
)

-- ── bytes to chunks ──

no_shape : (x : ℕ) (b left : List ℕ) → Edge left → No001 (x ∷ b) → HasCode (x ∷ b ++ left) → ⊥
unfolding No001
no_shape x [] left (inl e) n h = let f = h.1 in let z : ◌≡◌ {A = ℕ} 0 1 = cc in omega arith
no_shape x [] left (inr k) n h = let e = k.1 in let f = h.1 in let z : ◌≡◌ {A = ℕ} 0 1 = cc in omega arith
no_shape x (y ∷ []) left (inl e) n h = let f = h.1 in let z : ◌≡◌ {A = ℕ} 0 1 = cc in omega arith
no_shape x (y ∷ []) left (inr k) n h = let e = k.1 in let f = h.1 in let z : ◌≡◌ {A = ℕ} 0 1 = cc in omega arith
no_shape x (y ∷ z ∷ b) left k n h = let f = h.1 in n [] b (cc)

cut_edge : (left : List ℕ) → Edge left → cut left ≡ record { front = []; chunks = (cut left).chunks }
unfolding cut
cut_edge left (inl e) = rw e refl
cut_edge left (inr h) = rw (h.1, cut_law h.0) refl

cut_body : (b left : List ℕ) → Edge left → No001 b → cut (b ++ left) ≡ record { front = b; chunks = (cut left).chunks }
unfolding cut
cut_body [] left k n = cut_edge left k
cut_body (x ∷ b) left k n = rw ((not_begins_iff (x ∷ b ++ left)).1 (no_shape x b left k n)) (ap (no_cut x) (cut_body b left k (suffix_clean x b n)))

pub cut_unit : (u : StreamUnit) (left : List ℕ) → Alone u → Edge left → cut (bytes u ++ left) ≡ record { front = []; chunks = chunk u ∷ (cut left).chunks }
cut_unit u left a k = cut_law (chunk u ++ left) ∙ rw (cut_body (chunk u) left k (alone_chunk u a)) refl

edge_units : (us : List StreamUnit) (left : List ℕ) → Edge left → Edge (concat_map bytes us ++ left)
edge_units [] left k = k
edge_units (u ∷ us) left k = inr (_, refl)

pub cut_ahead : (us : List StreamUnit) (left : List ℕ) → All Alone us → Edge left → (cut (concat_map bytes us ++ left)).chunks ≡ map chunk us ++ (cut left).chunks
cut_ahead [] left a k = refl
cut_ahead (u ∷ us) left a k =
    ap (λ (l : List ℕ). (cut l).chunks) (append_assoc (bytes u) (concat_map bytes us) left)
    ∙ ap (λ (c : Cut). c.chunks) (cut_unit u (concat_map bytes us ++ left) a.0 (edge_units us left k))
    ∙ ap (λ (l : List (List ℕ)). chunk u ∷ l) (cut_ahead us left a.1 k)

-- ── chunks to bytes ──

pub edge_chunks : (cs : List (List ℕ)) → Edge (concat_map prefixed cs)
edge_chunks [] = inl refl
edge_chunks (c ∷ cs) = inr (_, refl)

units_clean : (us : List StreamUnit) (cs : List (List ℕ)) → All No001 (map chunk us ++ cs) → All Alone us × All No001 cs
units_clean [] cs h = (tt, h)
units_clean (u ∷ us) cs h = let r = units_clean us cs h.1 in ((chunk_alone u h.0, r.0), r.1)

units_bytes : (us : List StreamUnit) (cs : List (List ℕ)) → concat_map prefixed (map chunk us ++ cs) ≡ concat_map bytes us ++ concat_map prefixed cs
units_bytes us cs = concat_append prefixed (map chunk us) cs ∙ ap (λ (l : List ℕ). l ++ concat_map prefixed cs) (prefixed_units us)

-- a stream that begins 00 00 01 and whose chunks begin with those of units begins with these units
pub uncut_ahead : (s : List ℕ) (us : List StreamUnit) (cs : List (List ℕ)) → HasCode s → (cut s).chunks ≡ map chunk us ++ cs → (concat_map bytes us ++ concat_map prefixed cs ≡ s) × All Alone us × All No001 cs
uncut_ahead s us cs h e =
    let c = units_clean us cs (rw e at (cleaned s).1) in
    let f : (cut s).front ≡ [] = rw (h.1, cut_law h.0) refl in
    (sym (units_bytes us cs) ∙ sym (rebuilt s ∙ rw (f, e) refl), c.0, c.1)
