-- What is proved of group g beyond the contract of the function.
use Prim.Native.Nat.{ℕ, ◌≤◌}
use mathlib.Core.Path.{◌≡◌}
use mathlib.Core.Logic.{◌↔◌}
use mathlib.Core.List.{List, [], ◌∷◌}
use lib.ListN.{length}
use Rattle.answers.specs.Answers.{Carried, refused, NO_ROW, OneToOne}
use Rattle.answers.specs.Limits.{longest_stream}
use Rattle.grammar.specs.Grammar.{Reading, Reads}
use Rattle.grammar.specs.Reasons.{ByNumber}
use Rattle.grammar.specs.Refusals.{Refuses}
use Rattle.groups.specs.Groups.{group_says, GroupOfReading, GroupByReading}
use Rattle.groups.specs.Reader.{group_at}
use Rattle.groups.proofs.Theorems as proof

-- Of a stream within the limit and with a reading: the record of the reading's group g, or NO ROW where it has no such group.
pub group_is_lem : (s : List ℕ) (r : Reading) → length s ≤ longest_stream → Reads s r → (g : ℕ) → GroupOfReading r g (group_at s g)
group_is_lem s r h k g = proof.group_is_lem s g r h k

-- Of any stream: a record, NO ROW and a refusal, each exactly where it is answered.
pub group_exactly : (s : List ℕ) (g : ℕ) → GroupByReading s g (group_at s g)
group_exactly = proof.group_exactly

-- A refusal that carries something is the stream's, rows aside.
pub group_refused : (s : List ℕ) (g n : ℕ) (first : Carried) (more : List Carried) → (group_at s g ≡ refused n (first ∷ more)) ↔ ByNumber (Refuses s) n (first ∷ more)
group_refused = proof.group_refused

-- One that carries nothing is NO ROW.
pub group_no_row : (s : List ℕ) (g n : ℕ) → group_at s g ≡ refused n [] → n ≡ NO_ROW
group_no_row = proof.group_no_row

-- No two answers say the same.
pub group_one_to_one : OneToOne group_says
group_one_to_one = proof.group_one_to_one
