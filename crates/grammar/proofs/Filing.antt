-- A walk gives the units of a stream exactly where it has a reading, and they are that reading's; so are the rows.
use Rattle.std.proofs.Common.{Ok, Err}
use Prim.Native.Nat.{ℕ, ◌≤◌, ◌+◌}
use mathlib.Core.Path.{◌≡◌, refl, sym, ◌∙◌, ap, subst}
use mathlib.Core.Logic.{◌↔◌}
use mathlib.Core.List.{List, [], ◌∷◌, map, map-append}
use mathlib.Core.Bool.{true, cond}
use lib.ListN.{length}
use lib.Dec.{ltb}
use borrow.Author.Tests.{ltb-false, le-ltb}
use Rattle.answers.specs.Answers.{done}
use Rattle.bits.proofs.TestLaws.{by_test}
use Rattle.answers.proofs.OutcomeLaws.{not_done, done_one}
use Rattle.answers.proofs.ResultLaws.{not_ok, ok_same, map_ok_lem}
use Rattle.bodies.specs.declared.Scope.{Scope}
use Rattle.bodies.specs.declared.Scope.TheVariants as scope
use Rattle.startcode.specs.Prefix.{begins}
use Rattle.grammar.specs.Lists.{concat_map}
use Rattle.grammar.specs.Grammar.{StreamUnit, bytes, Group, Reading, picture_units, group_units, units, Reads}
use Rattle.grammar.specs.Rows.{Row, Placed, placed, placed_picture, placed_group, placed_units, rows_from, rows}
use Rattle.grammar.specs.Reader.{Step, cut, scope_in, final, step, Walk, stop_at, add_unit, continue, walk_from, walk_of_any, walk, said, filing}
use Rattle.answers.specs.Limits.{longest_stream}
use Rattle.grammar.specs.declared.State.{State}
use Rattle.grammar.specs.declared.State.TheVariants.{Start}
use Rattle.grammar.specs.declared.Reason.TheVariants.{Unended}
use Rattle.grammar.proofs.CutLaws.{chunk, cut_units, uncut}
use Rattle.grammar.proofs.Division.{Accepts, sound, complete}
use Rattle.grammar.proofs.HeaderLaws.{reads_code}
use Rattle.grammar.proofs.StepLaws.{step_sound, step_complete}

abbrev pub unit_of : Placed → StreamUnit
unit_of m = m.unit

map_placed : (b : Scope) (us : List StreamUnit) → map unit_of (map (placed b) us) ≡ us
map_placed b [] = refl
map_placed b (u ∷ us) = rw (map_placed b us)

map_concat : {A B C : Type 0} (g : B → C) (f : A → List B) (k : A → List C) → ((a : A) → map g (f a) ≡ k a) → (l : List A) → map g (concat_map f l) ≡ concat_map k l
map_concat g f k h [] = refl
map_concat g f k h (a ∷ l) = map-append g (f a) (concat_map f l) ∙ rw (h a, map_concat g f k h l)

group_units_lem : (g : Group) → map unit_of (placed_group g) ≡ group_units g
group_units_lem g = ap (λ (l : List StreamUnit). g.head ∷ l) (map-append unit_of (map (placed scope.Head) g.extras) (concat_map placed_picture g.pictures)
    ∙ rw (map_placed scope.Head g.extras, map_concat unit_of placed_picture picture_units (λ p. map_placed scope.Picture (picture_units p)) g.pictures))

pub units_of_placed : (r : Reading) → map unit_of (placed_units r) ≡ units r
units_of_placed r = map-append unit_of (concat_map placed_group r.groups) (map (placed scope.Picture) r.ending) ∙ rw (map_concat unit_of placed_group group_units group_units_lem r.groups, map_placed scope.Picture r.ending)

-- ── units from a state on ──

-- what a walk from a state on says of the chunks and the units
record Walked (q : State) (cs : List (List ℕ)) (ms : List Placed) : Type 0 where
  chunks_are : cs ≡ map chunk (map unit_of ms)
  accepts : Accepts q ms

more_walked : (q q' : State) (u : StreamUnit) (cs : List (List ℕ)) (ms ms' : List Placed) → step q u ≡ Ok q' → placed (scope_in q u) u ∷ ms' ≡ ms → Walked q' cs ms' → Walked q (chunk u ∷ cs) ms
more_walked q q' u cs ms ms' s e w = subst (Walked q (chunk u ∷ cs)) e
    (record { chunks_are = ap (λ (l : List (List ℕ)). chunk u ∷ l) w.chunks_are; accepts = (q', step_sound q u q' s, refl, w.accepts) })

-- at the end the state decides
walk_end : (q : State) (at : ℕ) → walk_from [] q at ≡ cond (final q) (Ok []) (stop_at Unended at)
unfolding walk_from
walk_end q at = refl

walked_sound : (cs : List (List ℕ)) (q : State) (at : ℕ) (ms : List Placed) → walk_from cs q at ≡ Ok ms → Walked q cs ms
unfolding walk_from
walked_sound [] q at ms e = let w = sym (walk_end q at) ∙ e in
    by_test (final q) (λ t. let n : [] ≡ ms = ok_same (rw t at w) in subst (Walked q []) n (record { chunks_are = refl; accepts = t })) (λ f. not_ok (rw f at w))
walked_sound ([] ∷ cs) q at ms e = not_ok e
walked_sound ((c ∷ b) ∷ cs) q at ms e = by_step (step q u) refl (λ q' ms'. walked_sound cs q' (at + length (bytes u)) ms') e
  where
    u : StreamUnit
    u = record { code = c; body = b }

    by_step : (s : Step) → step q u ≡ s → ((q' : State) (ms' : List Placed) → walk_from cs q' (at + length (bytes u)) ≡ Ok ms' → Walked q' cs ms')
        → continue s at (λ q'. add_unit (placed (scope_in q u) u) (walk_from cs q' (at + length (bytes u)))) ≡ Ok ms → Walked q ((c ∷ b) ∷ cs) ms
    by_step (Err why) s ih e = not_ok e
    by_step (Ok q') s ih e = let a = map_ok_lem (λ ms. placed (scope_in q u) u ∷ ms) (walk_from cs q' (at + length (bytes u))) ms e in more_walked q q' u cs ms a.0 s a.2 (ih q' a.0 a.1)

walked_complete : (ms : List Placed) (q : State) (at : ℕ) → Accepts q ms → walk_from (map chunk (map unit_of ms)) q at ≡ Ok ms
unfolding walk_from
walked_complete [] q at a = rw a refl
walked_complete (m ∷ ms) q at a = rw (step_complete a.1)
    (ap (add_unit (placed (scope_in q m.unit) m.unit)) (walked_complete ms a.0 (at + length (bytes m.unit)) a.3)
    ∙ ap (λ (b : Scope). Ok (placed b m.unit ∷ ms)) (sym a.2))

-- ── streams of any length ──

any_sound : (s : List ℕ) (ms : List Placed) → walk_of_any s ≡ Ok ms → (r : Reading) × Reads s r × (ms ≡ placed_units r)
unfolding walk_of_any
any_sound s ms e = by_test (begins s) (λ b. from_chunks b (walked_sound (cut s).chunks Start 0 ms (rw b at e))) (λ f. not_ok (rw f at e))
  where
    from_chunks : begins s ≡ true → Walked Start (cut s).chunks ms → (r : Reading) × Reads s r × (ms ≡ placed_units r)
    from_chunks b f =
        let t = sound ms Start f.accepts in
        let r : Reading = record { groups = t.rest.gs; ending = t.rest.e } in
        let c = uncut s (units r) b (f.chunks_are ∙ ap (λ (l : List Placed). map chunk (map unit_of l)) t.rest.is ∙ ap (map chunk) (units_of_placed r)) in
        (r, record { stream_is = c.0; alone = c.1; some_group = t.some_group; groups = t.rest.groups; ending = t.rest.ending }, t.rest.is)

begun : (s : List ℕ) (r : Reading) → Reads s r → begins s ≡ true
unfolding begins
begun s r h = ap begins (reads_code s r h).1

any_complete : (s : List ℕ) (r : Reading) → Reads s r → walk_of_any s ≡ Ok (placed_units r)
unfolding walk_of_any
any_complete s r h =
    rw (begun s r h)
    (ap (λ (cs : List (List ℕ)). walk_from cs Start 0) chunks_are ∙ walked_complete (placed_units r) Start 0 (complete r.groups r.ending h.some_group h.groups h.ending))
  where
    chunks_are : (cut s).chunks ≡ map chunk (map unit_of (placed_units r))
    chunks_are = rw (← h.stream_is, cut_units (units r) h.alone, units_of_placed r)

-- ── streams within the limit ──

-- a walk gives these units exactly where the stream has a reading whose units they are
pub walked_iff : (s : List ℕ) (ms : List Placed) → (walk s ≡ Ok ms) ↔ ((length s ≤ longest_stream) × ((r : Reading) × Reads s r × (ms ≡ placed_units r)))
unfolding walk
walked_iff s ms = (
  (λ e. by_test (ltb longest_stream (length s)) (λ t. not_ok (rw t at e)) (λ f. (ltb-false _ _ f, any_sound s ms (rw f at e)))),
  λ h. rw (le-ltb longest_stream (length s) h.0) (any_complete s h.1.0 h.1.1 ∙ ap Ok (sym h.1.2)),
)

-- what is said of a walk that came to its end
pub said_done : {A : Type 0} (view : List Placed → A) (w : Walk) (a : A) → said view w ≡ done a → (ms : List Placed) × (w ≡ Ok ms) × (view ms ≡ a)
said_done view (Ok ms) a e = (ms, refl, done_one e)
said_done view (Err s) a e = not_done e

pub filed_iff : (s : List ℕ) (rs : List Row) → (filing s ≡ done rs) ↔ ((length s ≤ longest_stream) × ((r : Reading) × Reads s r × (rs ≡ rows r)))
unfolding filing
filed_iff s rs = (
  (λ e. let d = said_done (rows_from 0) (walk s) rs e in let h = (walked_iff s d.0).0 d.1 in (h.0, (h.1.0, h.1.1, sym d.2 ∙ ap (rows_from 0) h.1.2))),
  λ h. ap (said (rows_from 0)) ((walked_iff s (placed_units h.1.0)).1 (h.0, (h.1.0, h.1.1, refl))) ∙ ap done (sym h.1.2),
)
