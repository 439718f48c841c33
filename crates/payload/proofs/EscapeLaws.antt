-- The laws of escape removal: bits pushed, the bits that stay, and the end.
use Prim.Native.Nat.{ℕ, zero, suc, ◌+◌, ◌-◌, ◌*◌, ◌/◌, ◌%◌, ◌^◌, ◌≤◌, ◌<◌}
use mathlib.Core.Path.{◌≡◌, refl, sym, ap, ◌∙◌}
use mathlib.Core.List.{List, [], ◌∷◌, ◌++◌, append_assoc, append-nil}
use mathlib.Core.Bool.{true, cond, ◌&&◌, and-false}
use native.Mathlib.Omega.{arith}
use native.Mathlib.Numerals.{add-one}
use native.Mathlib.Nat.{mul-mod_left}
use lib.Bits.{and_mask, bit_and}
use lib.Dec.{eqb, leb}
use lib.ListN.{length, get_or, take, drop, set, length-append, length-set, drop_of_length-le, take-append-drop}
use lib.Pow.{shl-shr, mod-mod-pow, mod-pow-add}
use lib.Seq.{take_all, take-suc-set, drop-set-lt, drop-drop, length-take-le, set_split}
use borrow.Author.Tests.{le-leb, lt-ltb, le-ltb}
use Rattle.answers.specs.Answers.{done, refused, FULL, TOO_LONG}
use Rattle.answers.specs.Limits.{longest_payload}
use Rattle.bits.specs.Bits.{bits_in, pack_on, pack}
use Rattle.bits.proofs.ListLaws.{at_head}
use Rattle.bits.proofs.TestLaws.{by_test}
use Rattle.bits.proofs.BitLaws.{length_in, bit_in}
use Rattle.bits.proofs.PackingLaws.{pack_few, pack_over, pack_last}
use Rattle.payload.specs.Escape.{kept, copied, unescaped, removal}
use Rattle.payload.specs.Inside.{kept_width, waiting, Joined, Pushed, Copied, Filled}
use Rattle.payload.specs.declared.packer.Packer.{Packer}

-- ── the bits of a byte ──

-- the bit that the code picks by a shift and a mask
pub picked : (b x j : ℕ) → x ≡ b → j < 8 → (bit_and (x / 2 ^ (7 - j)) 1 ≡ get_or (bits_in 8 b) j 0) × (bit_and (x / 2 ^ (7 - j)) 1 < 2)
picked b x j e h = let m = and_mask (x / 2 ^ (7 - j)) 1 in (m ∙ ap (λ (y : ℕ). y / 2 ^ (7 - j) % 2) e ∙ sym (bit_in 8 b j h), omega arith)

pub take_bits : (b j : ℕ) → j ≤ 8 → length (take j (bits_in 8 b)) ≡ j
take_bits b j h = let l = length_in 8 b in length-take-le j (bits_in 8 b) (omega arith)

-- ── bits are pushed ──

-- bits that wait are a byte that is not full yet
pack_waits : (value k : ℕ) (rest : List ℕ) → k < 8 → pack (bits_in k value ++ rest) ≡ pack_on (value % 2 ^ k) k rest
pack_waits value k rest few =
    let n : 0 * 2 ^ k + value % 2 ^ k ≡ value % 2 ^ k = omega arith in
    let z : 0 + k ≡ k = omega arith in
    pack_few k 0 0 value rest (omega arith) ∙ rw (n, z)

module _ (out : List ℕ) (p : Packer) (byte width v : ℕ) (g : Joined p.value byte width v) where
  -- what the bits above those of the byte are
  older : v / 2 ^ width % 2 ^ p.k ≡ p.value % 2 ^ p.k
  older =
      let few = p.few in
      let e : 8 - p.k + p.k ≡ 8 = omega arith in
      ap (λ (x : ℕ). x % 2 ^ p.k) g.older ∙ (rw e at (mod-mod-pow p.value (8 - p.k) p.k))

  -- the bits that wait and these, with what follows
  packed : (rest : List ℕ) → pack (waiting p ++ (take width (bits_in 8 byte) ++ rest)) ≡ pack_on (p.value % 2 ^ p.k) p.k (bits_in width v ++ rest)
  packed rest =
      pack_waits p.value p.k (take width (bits_in 8 byte) ++ rest) p.few ∙ ap (λ (y : List ℕ). pack_on (p.value % 2 ^ p.k) p.k (y ++ rest)) (sym g.bits)

  -- a byte gets full, and d bits wait then
  pub pushed_out : (d : ℕ) (few : d < 8) → d + 8 ≡ p.k + width → width ≤ 8 → p.full < length out →
      Pushed out (set out p.full (v / 2 ^ d % 256)) p (record { full = p.full + 1; value = v; k = d; few = few }) (take width (bits_in 8 byte))
  pushed_out d few e m h =
      let x = v / 2 ^ d % 256 in
      let k = p.k in
      let before = p.few in
      let w : width ≡ suc (7 - k) + d = omega arith in
      let o : v / 2 ^ (suc (7 - k) + d) % 2 ^ k ≡ p.value % 2 ^ k = rw w at older in
      let t : take (p.full + 1) (set out p.full x) ≡ take p.full out ++ (x ∷ []) = rw add-one (take-suc-set out p.full x h) in
      let l = take_bits byte width m in
      record {
        same = length-set out p.full x;
        count = omega arith;
        made = λ rest.
            ap (λ (y : List ℕ). y ++ pack (bits_in d v ++ rest)) t ∙ append_assoc (take p.full out) (x ∷ []) (pack (bits_in d v ++ rest))
            ∙ ap (λ (y : List ℕ). take p.full out ++ (x ∷ y)) (pack_waits v d rest few)
            ∙ ap (λ (y : List ℕ). take p.full out ++ y) (sym (pack_over (p.value % 2 ^ k) k (7 - k) d v rest (omega arith) few o))
            ∙ ap (λ (n : ℕ). take p.full out ++ pack_on (p.value % 2 ^ k) k (bits_in n v ++ rest)) (sym w)
            ∙ ap (λ (y : List ℕ). take p.full out ++ y) (sym (packed rest));
        left = drop-set-lt (p.full + 1) out p.full x (omega arith);
      }

  -- none gets full, and all that come wait too
  pub pushed_in : (few : p.k + width < 8) →
      Pushed out out p (record { full = p.full; value = v; k = p.k + width; few = few }) (take width (bits_in 8 byte))
  pushed_in few =
      let k = p.k in
      let l = take_bits byte width (omega arith) in
      let low : p.value % 2 ^ k * 2 ^ width + v % 2 ^ width ≡ v % 2 ^ (k + width) = ap (λ (x : ℕ). x * 2 ^ width + v % 2 ^ width) (sym older) ∙ sym (mod-pow-add v k width) in
      record {
        same = refl;
        count = omega arith;
        made = λ rest.
            ap (λ (y : List ℕ). take p.full out ++ y)
            (pack_waits v (k + width) rest few ∙ sym (packed rest ∙ pack_few width (p.value % 2 ^ k) k v rest few ∙ rw low));
        left = refl;
      }

-- ── the bits that stay ──

-- the raw bytes before place i, the nearest first
abbrev pub earlier : ℕ → List ℕ → List ℕ
earlier zero raw = []
earlier (suc i) raw = get_or raw i 0 ∷ earlier i raw

-- how many of them, from the nearest on, are 00
abbrev pub zero_run : List ℕ → ℕ
zero_run [] = 0
zero_run (b ∷ l) = cond (eqb b 0) (zero_run l + 1) 0

pub width_is : (zeros byte : ℕ) → (6 ≤ kept_width zeros byte) × (kept_width zeros byte % 2 ≡ 0) × (kept_width zeros byte ≤ 8)
width_is zeros byte = by_test (leb 2 zeros && eqb byte 2) (λ t. rw t (omega arith, refl, omega arith)) (λ f. rw f (omega arith, refl, omega arith))

all_bits : (byte : ℕ) → bits_in 8 byte ≡ take 8 (bits_in 8 byte)
all_bits byte = let l = length_in 8 byte in sym (take_all 8 (bits_in 8 byte) (omega arith))

pub kept_width_lem : (before : List ℕ) (byte : ℕ) → kept before byte ≡ take (kept_width (zero_run before) byte) (bits_in 8 byte)
unfolding kept
kept_width_lem [] byte = all_bits byte
kept_width_lem (b ∷ []) byte = by_test (eqb b 0) (λ t. rw t (all_bits byte)) (λ f. rw f (all_bits byte))
kept_width_lem (b ∷ a ∷ before) byte =
    by_test (eqb b 0)
    (λ t.
    by_test (eqb a 0)
    (λ u.
    let w : leb 2 (zero_run before + 1 + 1) ≡ true = le-leb 2 (zero_run before + 1 + 1) (omega arith) in
    by_test (eqb byte 2) (λ v. simp (t, u, v, w)) (λ v. simp (t, u, v, w) (all_bits byte)))
    (λ u. simp (t, u) (all_bits byte)))
    (λ f. simp (f, and-false) (all_bits byte))

-- ── the copying loop ──

copied_cons : (before raw : List ℕ) (i : ℕ) → i < length raw →
    copied before (drop i raw) ≡ kept before (get_or raw i 0) ++ copied (get_or raw i 0 ∷ before) (drop (i + 1) raw)
unfolding copied
copied_cons before raw i h = rw (at_head raw i 0 h)

-- what holds at the loop's head: what is pushed and what is still to come make the whole
pub record Copying (raw out₀ out : List ℕ) (p : Packer) (zeros i : ℕ) : Type 0 where
  pub at : i ≤ length raw
  pub run : zeros ≡ zero_run (earlier i raw)
  pub few : zeros ≤ i
  pub same : length out ≡ length out₀
  pub bound : p.full * 8 + p.k ≤ i * 8
  pub count : p.full * 8 + p.k + length (copied (earlier i raw) (drop i raw)) ≡ length (unescaped raw)
  pub made : take p.full out ++ pack (waiting p ++ copied (earlier i raw) (drop i raw)) ≡ pack (unescaped raw)
  pub left : drop p.full out ≡ drop p.full out₀

pub copying_start : (raw out : List ℕ) (p : Packer) → p.full ≡ 0 → p.k ≡ 0 → Copying raw out out p 0 0
unfolding bits_in
copying_start raw out p full k =
    record {
      at = omega arith;
      run = refl;
      few = omega arith;
      same = refl;
      bound = omega arith;
      count = omega arith;
      made = rw (full, k) refl;
      left = refl;
    }

module _ (raw out₀ out : List ℕ) (p : Packer) (zeros i : ℕ) (g : Copying raw out₀ out p zeros i) where
  pub copying_step : (out' : List ℕ) (p' : Packer) (zeros' : ℕ) → i < length raw → zeros' ≡ cond (eqb (get_or raw i 0) 0) (zeros + 1) 0
      → Pushed out out' p p' (take (kept_width zeros (get_or raw i 0)) (bits_in 8 (get_or raw i 0))) → Copying raw out₀ out' p' zeros' (i + 1)
  copying_step out' p' zeros' h z u =
      let byte = get_or raw i 0 in
      let w = kept_width zeros byte in
      let rest = copied (earlier (suc i) raw) (drop (i + 1) raw) in
      let stay : kept (earlier i raw) byte ≡ take w (bits_in 8 byte) =
      kept_width_lem (earlier i raw) byte ∙ ap (λ (n : ℕ). take (kept_width n byte) (bits_in 8 byte)) (sym g.run) in
      let head : copied (earlier i raw) (drop i raw) ≡ take w (bits_in 8 byte) ++ rest = copied_cons (earlier i raw) raw i h ∙ ap (λ (x : List ℕ). x ++ rest) stay in
      let n : length (copied (earlier i raw) (drop i raw)) ≡ length (take w (bits_in 8 byte)) + length rest = ap length head ∙ length-append (take w (bits_in 8 byte)) rest in
      let v = width_is zeros byte in
      let l = take_bits byte w (omega arith) in
      let next : earlier (i + 1) raw ≡ earlier (suc i) raw = ap (λ (j : ℕ). earlier j raw) (add-one i) in
      let d : p.full + (p'.full - p.full) ≡ p'.full = omega (arith, u.count, p'.few, p.few) in
      let m : drop p'.full out ≡ drop p'.full out₀ =
      ap (λ (x : ℕ). drop x out) (sym d) ∙ sym (drop-drop (p'.full - p.full) p.full out) ∙ ap (drop (p'.full - p.full)) g.left
      ∙ drop-drop (p'.full - p.full) p.full out₀ ∙ ap (λ (x : ℕ). drop x out₀) d in
      record {
        at = omega arith;
        run = z ∙ ap (λ (x : ℕ). cond (eqb byte 0) (x + 1) 0) g.run ∙ ap zero_run (sym next);
        few = by_test (eqb byte 0) (λ t. let y : zeros' ≡ zeros + 1 = z ∙ rw t in omega (arith, g.few)) (λ f. let y : zeros' ≡ 0 = z ∙ rw f in omega arith);
        same = u.same ∙ g.same;
        bound = omega (arith, u.count, g.bound);
        count = rw next (omega (arith, u.count, g.count));
        made = rw next (u.made rest ∙ ap (λ (x : List ℕ). take p.full out ++ pack (waiting p ++ x)) (sym head) ∙ g.made);
        left = u.left ∙ m;
      }

  nothing_left : length raw ≤ i → copied (earlier i raw) (drop i raw) ≡ []
  unfolding copied
  nothing_left h = rw (drop_of_length-le raw h)

  pub copying_end : length raw ≤ i → Copied raw out₀ out p
  copying_end h =
      let none = nothing_left h in
      let n : length (copied (earlier i raw) (drop i raw)) ≡ 0 = ap length none in
      record {
        same = g.same;
        count = omega (arith, g.count);
        within = omega (arith, g.bound, g.at);
        made = rw (none, append-nil) at g.made;
        left = g.left;
      }

-- ── the last byte ──

-- the shift and the cast leave the bits that wait, with zeros after them
pub last_is : (v k : ℕ) → k < 8 → v * 2 ^ (8 - k) % 4294967296 % 256 ≡ v % 2 ^ k * 2 ^ (8 - k)
last_is v k few =
    let d = 8 - k in
    let e : k + d ≡ 8 = omega arith in
    let low : v * 2 ^ d % 2 ^ d ≡ 0 = mul-mod_left v (2 ^ d) in
    mod-mod-pow (v * 2 ^ d) 24 8 ∙ (rw e at (mod-pow-add (v * 2 ^ d) k d)) ∙ rw (shl-shr v d, low) (omega arith)

-- what is in the output then: no bit was left, or one byte more is written
none_waits : (value k : ℕ) → k ≡ 0 → pack (bits_in k value) ≡ []
unfolding bits_in pack_on
none_waits value k h = rw h refl

pub filled_none : (out : List ℕ) (p : Packer) → p.k ≡ 0 → Filled out out p
filled_none out p h =
    let n : p.full + 0 ≡ p.full = omega arith in
    rw (none_waits p.value p.k h, append-nil, n) (sym (take-append-drop p.full out))

pub filled_last : (out : List ℕ) (p : Packer) → (p.k ≡ 0 → ⊥) → p.full < length out →
    Filled out (set out p.full (p.value * 2 ^ (8 - p.k) % 4294967296 % 256)) p
filled_last out p h r =
    let v = p.value * 2 ^ (8 - p.k) % 4294967296 % 256 in
    let last : pack (waiting p) ≡ v ∷ [] =
    ap pack (sym (append-nil (waiting p))) ∙ pack_waits p.value p.k [] p.few ∙ pack_last (p.value % 2 ^ p.k) p.k h ∙ ap (λ (x : ℕ). x ∷ []) (sym (last_is p.value p.k p.few)) in
    rw (last, add-one) (set_split out p.full v r ∙ sym (append_assoc (take p.full out) (v ∷ []) (drop (suc p.full) out)))

-- ── the whole output ──

-- after the last byte is written, the output is the packed bits and the later bytes
pub output_made : (raw out₀ out after : List ℕ) (p : Packer) → Copied raw out₀ out p → length raw ≤ length out₀ → Filled out after p →
    after ≡ pack (unescaped raw) ++ drop (length (pack (unescaped raw))) out₀
output_made raw out₀ out after p g h written =
    let few = p.few in
    let t : length (take p.full out) ≡ p.full = length-take-le p.full out (omega (arith, g.within, g.same)) in
    let last = pack (waiting p) in
    let n : p.full + length last ≡ length (pack (unescaped raw)) =
    ap (λ (x : ℕ). x + length last) (sym t) ∙ sym (length-append (take p.full out) last) ∙ ap length g.made in
    let d : drop (p.full + length last) out ≡ drop (p.full + length last) out₀ =
    sym (drop-drop (length last) p.full out) ∙ ap (drop (length last)) g.left ∙ drop-drop (length last) p.full out₀ in
    written ∙ ap (λ (x : List ℕ). x ++ drop (p.full + length last) out) g.made ∙ ap (λ (x : List ℕ). pack (unescaped raw) ++ x) d ∙ ap (λ (x : ℕ). pack (unescaped raw) ++ drop x out₀) n

-- ── the answer ──

module _ (raw out : List ℕ) where
  pub removal_long : longest_payload < length raw → removal raw (length out) ≡ refused TOO_LONG []
  unfolding removal
  removal_long h = simp (lt-ltb longest_payload (length raw) h)

  module _ (h : length raw ≤ longest_payload) where
    pub removal_full : length out < length raw → removal raw (length out) ≡ refused FULL []
    unfolding removal
    removal_full k = simp (le-ltb longest_payload (length raw) h, lt-ltb (length out) (length raw) k)

    pub removal_done : length raw ≤ length out → removal raw (length out) ≡ done (length (unescaped raw))
    unfolding removal
    removal_done k = simp (le-ltb longest_payload (length raw) h, le-ltb (length out) (length raw) k)
