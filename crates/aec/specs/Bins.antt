-- Document 01, "Bins", in the document's order; a context's ranges and update are of the crate contexts. A state's rs, rt, vs and vt are its rS, rT, valueS and valueT.
use Rattle.std.specs.Prelude.{ℕ, ◌+◌, ◌-◌, ◌*◌, ◌/◌, ◌%◌, List, [], ◌∷◌, Bool, true, cond, ◌&&◌, ◌||◌, length, drop, leb, ltb, eqb}
use Rattle.answers.specs.Answers.{Outcome, done, refused, and_then, TOO_LONG, BAD_STATE}
use Rattle.answers.specs.Limits.{longest_payload, most_bits}
use Rattle.answers.specs.Missing.{payload_out}
use Rattle.bits.specs.Bits.{payload, read_at, read_or}
use Rattle.contexts.specs.Contexts.{good_context, update_of}
use Rattle.contexts.specs.declared.Context.{Context}
use Rattle.aec.specs.declared.State.{State}
use Rattle.aec.specs.declared.Shift.{Shift}

-- ── "Ranges" ──

-- a state within its ranges, where the payload has `end` bits
unfoldable pub good_state : ℕ → State → Bool
good_state end x = leb x.rs x.vs && leb x.vs most_bits && leb x.rt 255 && leb x.vt 255 && leb x.place end

-- ── The order on payloads: TOO LONG, BAD STATE, then what the bits meet ──

-- TOO LONG looks at the bytes lent, whatever the bit count
unfoldable pub within_limit : List ℕ → Outcome (Unit {0})
within_limit bytes = cond (leb (length bytes) longest_payload) (done tt) (refused TOO_LONG [])

-- then BAD STATE, of the state or of the contexts
unfoldable pub refused_first : List ℕ → ℕ → State → Bool → Outcome (Unit {0})
refused_first bytes count x contexts =
    and_then (within_limit bytes) (λ _. cond (good_state (length (payload bytes count)) x && contexts) (done tt) (refused BAD_STATE []))

-- ── The next bit ──

-- PAYLOAD OUT: a bit is wanted and none is left. Bits are read one by one, so one is missing.
abbrev pub no_bit : {A : Type 0} → Outcome A
no_bit = payload_out 1

-- twice a number and the next bit, and the place after it; the list is the bits from the place on
unfoldable pub double_of : List ℕ → ℕ → ℕ → Outcome (ℕ × ℕ)
double_of [] value place = no_bit
double_of (b ∷ bits) value place = done (value * 2 + b, place + 1)

-- Both while loops: until there is enough, double the value and add the next bit, and step the number beside it.
unfoldable pub shifts : (Shift → Bool) → (ℕ → ℕ) → List ℕ → Shift → Outcome Shift
shifts enough step [] z = cond (enough z) (done z) no_bit
shifts enough step (b ∷ bits) z =
    cond (enough z) (done z)
    (shifts enough step bits (record { value = z.value * 2 + b; beside = step z.beside; place = z.place + 1 }))

-- ── "Start" ──

-- "while valueT is below 256, double it, add the next bit, add 1 to valueS", which was 0
abbrev pub normalise_of : List ℕ → ℕ → ℕ → Outcome Shift
normalise_of bits vt place = shifts (λ z. leb 256 z.value) (λ vs. vs + 1) (drop place bits) (record { value = vt; beside = 0; place = place })

-- normalise, "then keep valueT mod 256"; rS is 0
abbrev pub settle_of : List ℕ → ℕ → ℕ → ℕ → Outcome State
settle_of bits rt vt place =
    and_then (normalise_of bits vt place) (λ z. done (record { rs = 0; rt = rt; vs = z.beside; vt = z.value % 256; place = z.place }))

-- "rS 0, rT 255, valueS 0, valueT the first nine bits", which are one read; then normalise
unfoldable pub start_of : List ℕ → ℕ → Outcome State
start_of bytes count =
    let bits = payload bytes count in
    and_then (within_limit bytes) (λ _. read_or (λ vt. settle_of bits 255 vt 9) payload_out (read_at bits 0 9))

-- ── "One bin" ──

-- s, t and R of a bin
pub record Parts : Type 0 where
  pub s : ℕ
  pub t : ℕ
  pub range : ℕ

-- the predicted bin p, and lg
pub record Guess : Type 0 where
  pub p : ℕ
  pub lg : ℕ

-- s and t, "if rT >= q" and else; R is q, "or rT + q in the second case"
unfoldable pub split_of : State → ℕ → Parts
split_of x q =
    cond (leb q x.rt) (record { s = x.rs; t = x.rt - q; range = q })
    (record { s = x.rs + 1; t = 256 + x.rt - q; range = x.rt + q })

-- "s > valueS, or s = valueS and valueT >= t": the bin is 1 - p
unfoldable pub misses_of : State → Parts → Bool
misses_of x y = ltb x.vs y.s || (eqb y.s x.vs && leb y.t x.vt)

-- "valueT - t when s = valueS, else 256 + 2 × valueT + next bit - t", and the place of the next bit
unfoldable pub remainder_of : List ℕ → State → Parts → Outcome (ℕ × ℕ)
remainder_of bits x y =
    cond (eqb y.s x.vs) (done (x.vt - y.t, x.place))
    (and_then (double_of (drop x.place bits) x.vt x.place) (λ v. done (256 + v.0 - y.t, v.1)))

-- "while R is below 256 double R, and double valueT and add the next bit"
abbrev pub widen_of : List ℕ → ℕ → ℕ → ℕ → Outcome Shift
widen_of bits vt range place = shifts (λ z. leb 256 z.beside) (λ r. r * 2) (drop place bits) (record { value = vt; beside = range; place = place })

-- the state after the bin 1 - p: "rT = R mod 256", and valueT normalised as at the start
unfoldable pub unpredicted_of : List ℕ → State → Parts → Outcome State
unpredicted_of bits x y =
    and_then (remainder_of bits x y) (λ v.
    and_then (widen_of bits v.0 y.range v.1) (λ z. settle_of bits (z.beside % 256) z.value z.place))

-- "otherwise the bin is p, rS = s, rT = t"
abbrev pub bin_of : List ℕ → State → ℕ → Parts → Outcome (ℕ × State)
bin_of bits x p y =
    cond (misses_of x y) (and_then (unpredicted_of bits x y) (λ next. done (1 - p, next)))
    (done (p, record { rs = y.s; rt = y.t; vs = x.vs; vt = x.vt; place = x.place }))

-- one bin, with predicted p and q = lg/4
unfoldable pub step_of : List ℕ → State → Guess → Outcome (ℕ × State)
step_of bits x g = bin_of bits x g.p (split_of x (g.lg / 4))

-- ── "Two contexts", "Bypass", "Stuffing bin" ──

-- p and lg of two contexts: "p is that of the smaller lg (the second on a tie)"
unfoldable pub pair_of : Context → Context → Guess
pair_of a b =
    cond (eqb a.mps b.mps) (record { p = a.mps; lg = (a.lg + b.lg) / 2 })
    (cond (ltb a.lg b.lg) (record { p = a.mps; lg = 1023 - (b.lg - a.lg) / 2 })
    (record { p = b.mps; lg = 1023 - (a.lg - b.lg) / 2 }))

-- a bin of no context, p 0
abbrev pub plain_of : List ℕ → ℕ → State → ℕ → Outcome (ℕ × State)
plain_of bytes count x lg = and_then (refused_first bytes count x true) (λ _. step_of (payload bytes count) x (record { p = 0; lg = lg }))

abbrev pub bypass_of : List ℕ → ℕ → State → Outcome (ℕ × State)
bypass_of bytes count x = plain_of bytes count x 1023

abbrev pub stuffing_of : List ℕ → ℕ → State → Outcome (ℕ × State)
stuffing_of bytes count x = plain_of bytes count x 4

-- ── One bin with its contexts, which "are then updated" ──

-- one context
unfoldable pub decode_of : List ℕ → ℕ → State → Context → Outcome (ℕ × State × Context)
decode_of bytes count x c =
    and_then (refused_first bytes count x (good_context c)) (λ _.
    and_then (step_of (payload bytes count) x (record { p = c.mps; lg = c.lg })) (λ r. done (r.0, r.1, update_of c r.0)))

-- two contexts
unfoldable pub decode_pair_of : List ℕ → ℕ → State → Context → Context → Outcome (ℕ × State × Context × Context)
decode_pair_of bytes count x a b =
    and_then (refused_first bytes count x (good_context a && good_context b)) (λ _.
    and_then (step_of (payload bytes count) x (pair_of a b)) (λ r. done (r.0, r.1, update_of a r.0, update_of b r.0)))
