-- Each refusal of filing is given exactly when document 01 says.
use Rattle.std.proofs.Common.{Ok, Err}
use Prim.Native.Nat.{ℕ, ◌+◌, ◌*◌}
use mathlib.Core.Path.{◌≡◌, refl, sym, ◌∙◌, ap}
use mathlib.Core.Logic.{inl, inr, ◌↔◌}
use mathlib.Core.List.{List, [], ◌∷◌, ◌++◌, map, map-append, append_assoc, append-nil}
use mathlib.Core.Bool.{false}
use native.Mathlib.Omega.{arith}
use lib.Dec.{ltb}
use lib.ListN.{length, length-append}
use borrow.Author.Tests.{ltb-true, ltb-false, lt-ltb, le-ltb}
use Rattle.answers.specs.Answers.{Carried, refused}
use Rattle.answers.specs.Limits.{longest_stream}
use Rattle.answers.proofs.OutcomeLaws.{not_refused}
use Rattle.answers.proofs.ResultLaws.{not_err, err_same, map_err}
use Rattle.bits.specs.Lists.{All}
use Rattle.bits.proofs.TestLaws.{by_test}
use Rattle.startcode.specs.Prefix.{begins}
use Rattle.grammar.specs.Lists.{concat_map}
use Rattle.grammar.specs.Grammar.{StreamUnit, bytes, Alone, units}
use Rattle.grammar.specs.Rows.{Placed, placed, placed_units, rows_from}
use Rattle.grammar.specs.Reasons.{reason_number, carries, ByNumber}
use Rattle.grammar.specs.Reader.{Step, cut, final, step, scope_in, Stopped, Walk, stop_at, add_unit, continue, walk_from, walk_of_any, walk, said, filing, within, walk_into, filing_into}
use Rattle.grammar.specs.Refusals.{HasCode, Stops, unended, cut as cut_short, overlap, breaks, StopsAt, Refuses, too_long, no_code, in_unit, RefusesInto, refuses as refuses-filing, full}
use Rattle.grammar.specs.declared.State.{State}
use Rattle.grammar.specs.declared.State.TheVariants.{Start}
use Rattle.grammar.specs.declared.Reason.{Reason}
use Rattle.grammar.specs.declared.Reason.TheVariants as reason
use Rattle.grammar.proofs.ListLaws.{concat_append}
use Rattle.grammar.proofs.CutLaws.{No001, chunk, prefixed, chunk_alone, cut_law}
use Rattle.grammar.proofs.StepLaws.{step_sound, step_complete}
use Rattle.grammar.proofs.Filing.{walked_iff}
use Rattle.grammar.proofs.RowLaws.{units_length}
use Rattle.grammar.proofs.Sentences.{At, start, more}
use Rattle.grammar.proofs.Sentences as sentences
use Rattle.grammar.proofs.ShapeLaws.{final_iff}
use Rattle.grammar.proofs.RefusalsOfUnits.{step_iff}
use Rattle.grammar.proofs.RefusalsOfBytes.{Edge, begins_iff, not_begins_iff, cut_unit, cut_ahead, edge_chunks, uncut_ahead}

-- ── chunks ──

-- the walk from a state on stops at the first of these chunks
data StopsNow (q : State) (cs : List (List ℕ)) (why : Reason) : Type 0 where
  no_chunk : cs ≡ [] → final q ≡ false → why ≡ reason.Unended → StopsNow q cs why
  last_empty : cs ≡ [] ∷ [] → why ≡ reason.Cut → StopsNow q cs why
  empty : (c : List ℕ) (rest : List (List ℕ)) → cs ≡ [] ∷ c ∷ rest → why ≡ reason.Overlap → StopsNow q cs why
  at_unit : (u : StreamUnit) (rest : List (List ℕ)) → cs ≡ chunk u ∷ rest → step q u ≡ Err why → StopsNow q cs why

-- the walk goes over the units us, and stops at what follows
record Stuck (all : List (List ℕ)) (s : Stopped) : Type 0 where
  us : List StreamUnit
  state : State
  rest : List (List ℕ)
  is : all ≡ map chunk us ++ rest
  at : At us state
  now : StopsNow state rest s.reason
  offset : s.offset ≡ length (concat_map bytes us)

stopped_as : (why : Reason) (at : ℕ) (s : Stopped) → ◌≡◌ {A = Walk} (stop_at why at) (Err s) → (s.reason ≡ why) × (s.offset ≡ at)
stopped_as why at s e = let z = err_same e in (ap (λ (s : Stopped). s.reason) (sym z), ap (λ (s : Stopped). s.offset) (sym z))

concat_more : (us : List StreamUnit) (u : StreamUnit) → concat_map bytes (us ++ u ∷ []) ≡ concat_map bytes us ++ bytes u
concat_more us u = concat_append bytes us (u ∷ []) ∙ ap (λ (l : List ℕ). concat_map bytes us ++ l) (append-nil (bytes u))

-- the offset after one more unit
offset_more : (us : List StreamUnit) (u : StreamUnit) → length (concat_map bytes (us ++ u ∷ [])) ≡ length (concat_map bytes us) + length (bytes u)
offset_more us u = ap length (concat_more us u) ∙ length-append (concat_map bytes us) (bytes u)

chunks_more : (us : List StreamUnit) (u : StreamUnit) (cs : List (List ℕ)) → map chunk (us ++ u ∷ []) ++ cs ≡ map chunk us ++ chunk u ∷ cs
chunks_more us u cs = ap (λ (l : List (List ℕ)). l ++ cs) (map-append chunk us (u ∷ [])) ∙ append_assoc (map chunk us) (chunk u ∷ []) cs

module _ (all : List (List ℕ)) (s : Stopped) where
  stuck : (cs : List (List ℕ)) (us : List StreamUnit) (q : State) (at : ℕ) → At us q → all ≡ map chunk us ++ cs → at ≡ length (concat_map bytes us) → walk_from cs q at ≡ Err s → Stuck all s
  unfolding walk_from
  stuck [] us q at a i p e = by_test (final q) (λ t. not_err (rw t at e)) (λ f. let (w, l) = stopped_as reason.Unended at s (rw f at e) in
      record { us = us; state = q; rest = []; is = i; at = a; now = no_chunk refl f w; offset = l ∙ p })
  stuck ([] ∷ []) us q at a i p e = let (w, l) = stopped_as reason.Cut at s e in record { us = us; state = q; rest = [] ∷ []; is = i; at = a; now = last_empty refl w; offset = l ∙ p }
  stuck ([] ∷ c ∷ cs) us q at a i p e = let (w, l) = stopped_as reason.Overlap at s e in record { us = us; state = q; rest = [] ∷ c ∷ cs; is = i; at = a; now = empty c cs refl w; offset = l ∙ p }
  stuck ((c ∷ b) ∷ cs) us q at a i p e = by_step (step q u) refl (λ q'. stuck cs (us ++ u ∷ []) q' (at + length (bytes u))) e
    where
      u : StreamUnit
      u = record { code = c; body = b }

      by_step : (x : Step) → step q u ≡ x
          → ((q' : State) → At (us ++ u ∷ []) q' → all ≡ map chunk (us ++ u ∷ []) ++ cs → at + length (bytes u) ≡ length (concat_map bytes (us ++ u ∷ [])) → walk_from cs q' (at + length (bytes u)) ≡ Err s → Stuck all s)
          → continue x at (λ q'. add_unit (placed (scope_in q u) u) (walk_from cs q' (at + length (bytes u)))) ≡ Err s → Stuck all s
      by_step (Err why) x ih e = let (w, l) = stopped_as why at s e in record { us = us; state = q; rest = chunk u ∷ cs; is = i; at = a; now = at_unit u cs refl (x ∙ ap Err (sym w)); offset = l ∙ p }
      by_step (Ok q') x ih e = ih q' (more a (step_sound q u q' x)) (i ∙ sym (chunks_more us u cs)) (ap (λ (k : ℕ). k + length (bytes u)) p ∙ sym (offset_more us u))
          (map_err (λ ms. placed (scope_in q u) u ∷ ms) (walk_from cs q' (at + length (bytes u))) s e)

stops_now : (q : State) (cs : List (List ℕ)) (why : Reason) (at : ℕ) → StopsNow q cs why → walk_from cs q at ≡ stop_at why at
unfolding walk_from
stops_now q cs why at (no_chunk e f m) = rw (e, f, m) refl
stops_now q cs why at (last_empty e m) = rw (e, m) refl
stops_now q cs why at (empty c rest e m) = rw (e, m) refl
stops_now q cs why at (at_unit u rest e s) = rw (e, s) refl

unstuck : {us : List StreamUnit} {q : State} → At us q → (cs : List (List ℕ)) (s : Stopped) → walk_from cs q (length (concat_map bytes us)) ≡ Err s → walk_from (map chunk us ++ cs) Start 0 ≡ Err s
unfolding walk_from
unstuck start cs s e = e
unstuck (more {us} {q} {q'} {u} a g) cs s e =
    ap (λ (l : List (List ℕ)). walk_from l Start 0) (chunks_more us u cs)
    ∙ unstuck a (chunk u ∷ cs) s (rw (step_complete g) (ap (add_unit (placed (scope_in q u) u)) (ap (walk_from cs q') (sym (offset_more us u)) ∙ e)))

-- ── streams of any length ──

stuck_stops : {us : List StreamUnit} {q : State} → At us q → All Alone us → (cs : List (List ℕ)) (why : Reason) → All No001 cs → StopsNow q cs why → Stops us (concat_map prefixed cs) why
stuck_stops a l cs why k (no_chunk e f m) = unended (ap (concat_map prefixed) e) (λ s. let t = (final_iff a l).1 s in let z : ◌≡◌ {A = ℕ} 0 1 = cc in omega arith) m
stuck_stops a l cs why k (last_empty e m) = cut_short (ap (concat_map prefixed) e) m
stuck_stops a l cs why k (empty c rest e m) = overlap _ (ap (concat_map prefixed) e) (_, refl) m
stuck_stops a l cs why k (at_unit u rest e s) =
    let x : All No001 (chunk u ∷ rest) = rw e at k in
    breaks u (concat_map prefixed rest) (ap (concat_map prefixed) e) (chunk_alone u x.0) (edge_chunks rest) ((step_iff a u why).0 s)

stops_edge : {us : List StreamUnit} {left : List ℕ} {why : Reason} → Stops us left why → Edge left
stops_edge (unended e s m) = inl e
stops_edge (cut_short e m) = inr ([], e)
stops_edge (overlap rest e h m) = inr (rest, e)
stops_edge (breaks u rest e a k b) = inr (_, e)

stops_stuck : {us : List StreamUnit} {q : State} → At us q → All Alone us → (left : List ℕ) (why : Reason) → Stops us left why → StopsNow q (cut left).chunks why
unfolding cut
stops_stuck {us} {q} a l left why (unended e s m) = no_chunk (rw e refl) (by_test (final q) (λ t. absurd (s ((final_iff a l).0 t))) (λ f. f)) m
stops_stuck a l left why (cut_short e m) = last_empty (rw (e, cut_law []) refl) m
stops_stuck a l left why (overlap rest e h m) = empty (cut h.0).front (cut h.0).chunks (rw (e, cut_law rest, h.1, cut_law h.0) refl) m
stops_stuck a l left why (breaks u rest e k d b) = at_unit u (cut rest).chunks (rw (e, cut_unit u rest k d) refl) ((step_iff a u why).1 b)

chunks_refused : (s : List ℕ) → HasCode s → (x : Stopped) → walk_from (cut s).chunks Start 0 ≡ Err x → StopsAt s x.reason x.offset
chunks_refused s h x e =
    let t = stuck (cut s).chunks x (cut s).chunks [] Start 0 start refl refl e in
    let c = uncut_ahead s t.us t.rest h t.is in
    record {
      us = t.us;
      left = concat_map prefixed t.rest;
      stream_is = c.0;
      obey = (sentences.begins_iff t.us).0 ((t.state, t.at), c.1);
      stops = stuck_stops t.at c.1 t.rest x.reason c.2 t.now;
      offset = t.offset;
    }

refused_chunks : (s : List ℕ) (why : Reason) (at : ℕ) → StopsAt s why at → walk_from (cut s).chunks Start 0 ≡ stop_at why at
refused_chunks s why at t =
    let a = (sentences.begins_iff t.us).1 t.obey in
    let k = stops_edge t.stops in
    let c : (cut s).chunks ≡ map chunk t.us ++ (cut t.left).chunks = ap (λ (l : List ℕ). (cut l).chunks) (sym t.stream_is) ∙ cut_ahead t.us t.left a.1 k in
    ap (λ (l : List (List ℕ)). walk_from l Start 0) c
    ∙ unstuck a.0.1 (cut t.left).chunks (record { reason = why; offset = at }) (stops_now a.0.0 (cut t.left).chunks why _ (stops_stuck a.0.1 a.1 t.left why t.stops) ∙ ap (stop_at why) (sym t.offset))

-- ── every refusal ──

stops_by : (s : List ℕ) (x : Stopped) → walk s ≡ Err x → Refuses s x.reason x.offset
unfolding walk walk_of_any
stops_by s x e =
    by_test (ltb longest_stream (length s))
    (λ t. let (w, l) = stopped_as reason.TooLong 0 x (rw t at e) in too_long (ltb-true _ _ t) w l)
    (λ f. let l = ltb-false longest_stream (length s) f in
    by_test (begins s)
    (λ b. let h = (begins_iff s).0 b in in_unit l h (chunks_refused s h x (rw (f, b) at e)))
    (λ b. let (w, p) = stopped_as reason.NoCode 0 x (rw (f, b) at e) in no_code l ((not_begins_iff s).0 b) w p))

by_stops : (s : List ℕ) (why : Reason) (at : ℕ) → Refuses s why at → walk s ≡ stop_at why at
unfolding walk walk_of_any
by_stops s why at (too_long l m p) = rw (lt-ltb longest_stream (length s) l, m, p) refl
by_stops s why at (no_code l h m p) = rw (le-ltb longest_stream (length s) l, (not_begins_iff s).1 h, m, p) refl
by_stops s why at (in_unit l h t) = rw (le-ltb longest_stream (length s) l, (begins_iff s).1 h) (refused_chunks s why at t)

-- the walk stops for this reason at this offset exactly when document 01 refuses the stream for it there
pub stopped_iff : (s : List ℕ) (why : Reason) (at : ℕ) → (walk s ≡ stop_at why at) ↔ Refuses s why at
stopped_iff s why at = (stops_by s (record { reason = why; offset = at }), by_stops s why at)

-- ── with words lent ──

into_stops : (s : List ℕ) (lent : ℕ) (x : Stopped) → walk_into s lent ≡ Err x → RefusesInto s lent x.reason x.offset
unfolding walk_into
into_stops s lent x e = by_walk (walk s) refl e
  where
    by_walk : (w : Walk) → walk s ≡ w → within lent w ≡ Err x → RefusesInto s lent x.reason x.offset
    by_walk (Err y) e f = refuses-filing (stops_by s x (e ∙ f))
    by_walk (Ok ms) e f =
        by_test (ltb lent (3 * length ms))
        (λ t.
        let (w, p) = stopped_as reason.Full 0 x (rw t at f) in
        let k = (walked_iff s ms).0 e in
        let i : length ms ≡ length (units k.1.0) = ap length k.1.2 ∙ units_length k.1.0 in
        let l = ltb-true lent (3 * length ms) t in
        full k.0 k.1.0 k.1.1 (omega arith) w p)
        (λ g. not_err (rw g at f))

stops_into : (s : List ℕ) (lent : ℕ) (why : Reason) (at : ℕ) → RefusesInto s lent why at → walk_into s lent ≡ stop_at why at
unfolding walk_into
stops_into s lent why at (refuses-filing k) = rw (by_stops s why at k) refl
stops_into s lent why at (full l r k b m p) = rw ((walked_iff s (placed_units r)).1 (l, (r, k, refl)), units_length r, lt-ltb lent (3 * length (units r)) b, m, p) refl

pub into_stopped_iff : (s : List ℕ) (lent : ℕ) (why : Reason) (at : ℕ) → (walk_into s lent ≡ stop_at why at) ↔ RefusesInto s lent why at
into_stopped_iff s lent why at = (into_stops s lent (record { reason = why; offset = at }), stops_into s lent why at)

-- ── the same by the papers' numbers ──

module _ {A : Type 0} (view : List Placed → A) where
  -- what is said of a walk that stops
  pub said_refused : (w : Walk) (n : ℕ) (carried : List Carried) → said view w ≡ refused n carried →
      (x : Stopped) × (w ≡ Err x) × (n ≡ reason_number x.reason) × (carried ≡ carries x.reason x.offset)
  said_refused (Ok ms) n carried e = not_refused e
  said_refused (Err x) n carried e = (x, refl, cc, cc)

  pub said_iff : (w : Walk) (Refused : Reason → ℕ → Type 0) → ((why : Reason) (at : ℕ) → (w ≡ stop_at why at) ↔ Refused why at) → (n : ℕ) (carried : List Carried) →
      (said view w ≡ refused n carried) ↔ ByNumber Refused n carried
  said_iff w Refused iff n carried = (
    (λ e. let (x, s, m, c) = said_refused w n carried e in (x.reason, x.offset, (iff x.reason x.offset).0 s, m, c)),
    λ h. ap (said view) ((iff h.0 h.1).1 h.2) ∙ rw (← h.3, ← h.4),
  )

-- a stream is refused with this number, and carries this, exactly when the papers say
pub refused_iff : (s : List ℕ) (n : ℕ) (carried : List Carried) → (filing s ≡ refused n carried) ↔ ByNumber (Refuses s) n carried
unfolding filing
refused_iff s = said_iff (rows_from 0) (walk s) (Refuses s) (stopped_iff s)

pub into_iff : (s : List ℕ) (lent n : ℕ) (carried : List Carried) → (filing_into s lent ≡ refused n carried) ↔ ByNumber (RefusesInto s lent) n carried
unfolding filing_into
into_iff s lent = said_iff (rows_from 0) (walk_into s lent) (RefusesInto s lent) (into_stopped_iff s lent)
