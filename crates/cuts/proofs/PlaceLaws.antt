-- Where a reading may begin inside a stream that is read: at one of its groups, and nowhere else.
use Rattle.std.proofs.Common.{Err}
use Prim.Native.Nat.{ℕ, ◌≤◌}
use mathlib.Core.Path.{◌≡◌, refl, sym, ◌∙◌, ap, subst}
use mathlib.Core.Logic.{◌≢◌, ◌⊎◌, inl, inr}
use mathlib.Core.List.{List, [], ◌∷◌, ◌++◌, map, append_assoc, append-nil, cons-ne-nil}
use mathlib.Core.Bool.{Bool, cond}
use native.Mathlib.Omega.{arith}
use lib.Dec.{ltb}
use lib.ListN.{length, take, drop, take-append-drop, length-drop}
use lib.Seq.{length-take-le}
use borrow.Author.Tests.{ltb-true, ltb-false}
use Rattle.answers.specs.Answers.{Outcome}
use Rattle.answers.specs.Limits.{longest_stream}
use Rattle.bits.specs.Lists.{All}
use Rattle.bits.proofs.ListLaws.{all_right}
use Rattle.bits.proofs.TestLaws.{by_test}
use Rattle.startcode.specs.Prefix.{begins}
use Rattle.startcode.specs.declared.Kind.{Kind}
use Rattle.startcode.specs.declared.Kind.TheVariants as kind
use Rattle.grammar.specs.Lists.{concat_map}
use Rattle.grammar.specs.Grammar.{StreamUnit, bytes, IsKind, Alone, Group, Reading, group_units, units, IsGroup, IsEnding, Reads}
use Rattle.grammar.specs.Reader.{Cut, header_step, table, choose, by_kind, step, stop_at, walk_from, walk_of_any, walk}
use Rattle.grammar.specs.Refusals.{HasCode, no_code}
use Rattle.grammar.specs.declared.State.TheVariants.{Start}
use Rattle.grammar.specs.declared.Reason.{Reason}
use Rattle.grammar.specs.declared.Reason.TheVariants as reason
use Rattle.grammar.proofs.KindLaws.{apart, header_code}
use Rattle.grammar.proofs.CutLaws.{chunk, cut_units}
use Rattle.grammar.proofs.Unique.{compare_prefixes, same_units}
use Rattle.grammar.proofs.HeaderLaws.{OtherKind, tail_of, tail_other, ending_other, first_unit, reads_code}
use Rattle.grammar.proofs.StartLaws.{prefix_starts}
use Rattle.grammar.proofs.RefusalsOfBytes.{begins_iff, not_begins_iff}
use Rattle.grammar.proofs.Main.{stopped_iff}
use Rattle.filing.proofs.Demand.{walk_long, walk_short}
use Rattle.cuts.specs.Cuts.{StartAt, HeaderAt, CutAt, rest, AtOnce}
use Rattle.cuts.proofs.RestLaws.{bytes_left, units_divided, cut_reads}

-- ── a 00 00 01 stands at a unit's start ──

-- where something follows, so many bytes stand before it
bytes_before : (n : ℕ) (s : List ℕ) (x : ℕ) (l : List ℕ) → drop n s ≡ x ∷ l → length (take n s) ≡ n
bytes_before n s x l e =
    let d = length-drop n s in let k : length (drop n s) ≡ length (x ∷ l) = ap length e in
    length-take-le n s (omega arith)

pub prefix_at_start : (stream : List ℕ) (r : Reading) (n : ℕ) → Reads stream r → HasCode (drop n stream) → StartAt (units r) n
prefix_at_start stream r n h k =
    let divided = h.stream_is ∙ sym (take-append-drop n stream) ∙ ap (λ (l : List ℕ). take n stream ++ l) k.1 in
    let s = prefix_starts (units r) h.alone (take n stream) k.0 divided in
    record { before = s.before; unit = s.unit; after = s.after; divided = s.divided; place = sym (bytes_before n stream 0 (0 ∷ 1 ∷ k.0) k.1) ∙ ap length s.bytes_are }

-- ── a unit begins a group, or is no sequence header ──

-- these units are those of the groups before one
record Before (gs : List Group) (us : List StreamUnit) : Type 0 where
  before : List Group
  after : List Group
  divided : gs ≡ before ++ after
  some_group : after ≢ []
  units_are : us ≡ concat_map group_units before

next_group : (g : Group) (gs : List Group) (x : StreamUnit) (us mid : List StreamUnit) → x ≡ g.head → us ≡ tail_of g ++ mid → Before gs mid → Before (g ∷ gs) (x ∷ us)
next_group g gs x us mid i e b = record {
  before = g ∷ b.before;
  after = b.after;
  divided = ap (λ (l : List Group). g ∷ l) b.divided;
  some_group = b.some_group;
  units_are = let l : us ≡ tail_of g ++ concat_map group_units b.before = e ∙ ap (λ (k : List StreamUnit). tail_of g ++ k) b.units_are in cc;
}

later : (g : Group) (gs : List Group) (x u : StreamUnit) (us mid : List StreamUnit) → x ≡ g.head → us ≡ tail_of g ++ mid → Before gs mid ⊎ OtherKind u → Before (g ∷ gs) (x ∷ us) ⊎ OtherKind u
later g gs x u us mid i e (inl b) = inl (next_group g gs x us mid i e b)
later g gs x u us mid i e (inr o) = inr o

unit_place : (gs : List Group) (e : List StreamUnit) → All IsGroup gs → IsEnding e → (us : List StreamUnit) (u : StreamUnit) (more : List StreamUnit) →
    concat_map group_units gs ++ e ≡ us ++ u ∷ more → Before gs us ⊎ OtherKind u
unit_place [] e ag ae us u more eq = inr (all_right OtherKind us (u ∷ more) (subst (All OtherKind) eq (ending_other e ae))).0
unit_place (g ∷ gs) e ag ae [] u more eq = inl (record { before = []; after = g ∷ gs; divided = refl; some_group = cons-ne-nil _ _; units_are = refl })
unit_place (g ∷ gs) e ag ae (x ∷ us) u more eq = elim (compare_prefixes (tail_of g) (concat_map group_units gs ++ e) us (u ∷ more) tails) [
  | inl s ↦ later g gs x u us s.mid (cc) s.longer (unit_place gs e ag.1 ae s.mid u more s.rest)
  | inr s ↦ in_tail s.mid s.longer s.rest (λ q. unit_place gs e ag.1 ae [] u more q)
]
  where
    tails : tail_of g ++ (concat_map group_units gs ++ e) ≡ us ++ u ∷ more
    tails = cc (append_assoc (tail_of g) (concat_map group_units gs) e)

    in_tail : (mid : List StreamUnit) → tail_of g ≡ us ++ mid → u ∷ more ≡ mid ++ (concat_map group_units gs ++ e) → (concat_map group_units gs ++ e ≡ u ∷ more → Before gs [] ⊎ OtherKind u) → Before (g ∷ gs) (x ∷ us) ⊎ OtherKind u
    in_tail [] l q next = later g gs x u us [] (cc) (sym (append-nil us) ∙ sym l ∙ sym (append-nil (tail_of g))) (next (sym q))
    in_tail (m ∷ ms) l q next =
        let i : m ≡ u = cc in
        inr (subst OtherKind i (all_right OtherKind us (m ∷ ms) (subst (All OtherKind) l (tail_other g ag.0))).0)

start_place : (stream : List ℕ) (r : Reading) (n : ℕ) → Reads stream r → (s : StartAt (units r) n) → CutAt r n ⊎ OtherKind s.unit
start_place stream r n h s = elim (unit_place r.groups r.ending h.groups h.ending s.before s.unit s.after s.divided) [
  | inl b ↦ inl (record { before = b.before; after = b.after; divided = b.divided; some_group = b.some_group; place = s.place ∙ ap (λ (l : List StreamUnit). length (concat_map bytes l)) b.units_are })
  | inr o ↦ inr o
]

-- ── places of B0 ──

pub header_cuts : (stream : List ℕ) (r : Reading) (n : ℕ) → Reads stream r → HeaderAt (units r) n → CutAt r n
header_cuts stream r n h (s, b0) = elim (start_place stream r n h s) [
  | inl c ↦ c
  | inr o ↦ apart o.0 kind.SequenceHeader o.2 o.1 ((header_code s.unit.code).1 b0)
]

pub cut_headers : (stream : List ℕ) (r : Reading) (n : ℕ) → Reads stream r → CutAt r n → HeaderAt (units r) n
cut_headers stream r n h c =
    let f = first_unit (drop n stream) (rest r c) (cut_reads r n c stream h) in
    let before = concat_map group_units c.before in (
      record { before = before; unit = f.unit; after = f.after; divided = units_divided r n c ∙ ap (λ (l : List StreamUnit). before ++ l) f.all; place = c.place },
      (header_code f.unit.code).0 f.header,
    )

-- ── other places ──

-- what is left begins with no 00 00 01, or with another unit than a sequence header
pub data Elsewhere (left : List ℕ) : Type 0 where
  no_start : ¬ HasCode left → Elsewhere left
  other_unit : (u : StreamUnit) (us : List StreamUnit) → left ≡ concat_map bytes (u ∷ us) → All Alone (u ∷ us) → OtherKind u → Elsewhere left

pub place_of : (stream : List ℕ) (r : Reading) (n : ℕ) → Reads stream r → CutAt r n ⊎ Elsewhere (drop n stream)
place_of stream r n h = by_test (begins (drop n stream))
    (λ t. by_start (prefix_at_start stream r n h ((begins_iff (drop n stream)).0 t)))
    (λ f. inr (no_start ((not_begins_iff (drop n stream)).0 f)))
  where
    by_start : StartAt (units r) n → CutAt r n ⊎ Elsewhere (drop n stream)
    by_start s = elim (start_place stream r n h s) [
      | inl c ↦ inl c
      | inr o ↦
          let us = s.unit ∷ s.after in
          let left = ap (drop n) (sym h.stream_is ∙ ap (concat_map bytes) s.divided) ∙ bytes_left s.before us n s.place in
          inr (other_unit s.unit s.after left (all_right Alone s.before us (subst (All Alone) s.divided h.alone)) o)
    ]

pub none_read : (left : List ℕ) → Elsewhere left → (q : Reading) → ¬ Reads left q
none_read left (no_start none) q k = none (reads_code left q k)
none_read left (other_unit u us e a o) q k =
    let f = first_unit left q k in
    let same : f.unit ∷ f.after ≡ u ∷ us = sym f.all ∙ same_units (units q) (u ∷ us) k.alone a (k.stream_is ∙ e) in
    let i : f.unit ≡ u = cc in
    apart o.0 kind.SequenceHeader o.2 o.1 (subst (IsKind kind.SequenceHeader) i f.header)

-- ── how the walk stops there ──

step_other : (u : StreamUnit) → OtherKind u → step Start u ≡ Err reason.OutOfPlace
unfolding step
step_other u o =
    ap (λ (k : Outcome Kind). by_kind k (λ j. choose j (table Start u))) o.1
    ∙ ap (λ (t : Bool). cond t (header_step u.body) (Err reason.OutOfPlace)) o.2

chunks_other : (u : StreamUnit) (cs : List (List ℕ)) → OtherKind u → walk_from (chunk u ∷ cs) Start 0 ≡ stop_at reason.OutOfPlace 0
unfolding walk_from
chunks_other u cs o = rw (step_other u o) refl

walk_other : (u : StreamUnit) (us : List StreamUnit) → All Alone (u ∷ us) → OtherKind u → walk_of_any (concat_map bytes (u ∷ us)) ≡ stop_at reason.OutOfPlace 0
unfolding walk_of_any begins
walk_other u us a o = ap (λ (c : Cut). walk_from c.chunks Start 0) (cut_units (u ∷ us) a) ∙ chunks_other u (map chunk us) o

stops_short : (left : List ℕ) → Elsewhere left → length left ≤ longest_stream → (why : Reason) × AtOnce why × (walk left ≡ stop_at why 0)
stops_short left (no_start none) short = (reason.NoCode, inr (inl refl), (stopped_iff left reason.NoCode 0).1 (no_code short none refl refl))
stops_short left (other_unit u us e a o) short = (reason.OutOfPlace, inr (inr refl), walk_short left short ∙ ap walk_of_any e ∙ walk_other u us a o)

pub stops : (left : List ℕ) → Elsewhere left → (why : Reason) × AtOnce why × (walk left ≡ stop_at why 0)
stops left e = by_test (ltb longest_stream (length left))
    (λ t. (reason.TooLong, inl refl, walk_long left (ltb-true _ _ t)))
    (λ f. stops_short left e (ltb-false _ _ f))
