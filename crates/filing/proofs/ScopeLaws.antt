-- The scope that a state says, which is that of each extension read in it.
use mathlib.Core.Path.{◌≡◌, refl, ap}
use mathlib.Core.List.{List}
use mathlib.Core.Bool.{Bool, cond}
use lib.ListN.{length}
use Prim.Native.Nat.{ℕ}
use Rattle.answers.specs.Answers.{Outcome, done, refused}
use Rattle.startcode.specs.Kinds.{kind_of}
use Rattle.startcode.specs.declared.Kind.{Kind}
use Rattle.startcode.specs.declared.Kind.TheVariants as kind
use Rattle.bodies.specs.declared.Scope.{Scope}
use Rattle.bodies.specs.declared.Scope.TheVariants as scope
use Rattle.grammar.specs.Grammar.{StreamUnit}
use Rattle.grammar.specs.Rows.{placed, trimmed, whole_body, row_length}
use Rattle.grammar.specs.Reader.{place_of, scope_in}
use Rattle.grammar.specs.declared.State.{State}
use Rattle.grammar.specs.declared.State.TheVariants.{Start, Head, Picture as InPicture, Slices, Ended, Closed}

-- where an extension stands that is read in this state
abbrev pub extension_scope : State → Scope
extension_scope Start = scope.Picture
extension_scope (Head rule display) = scope.Head
extension_scope (InPicture rule) = scope.Picture
extension_scope (Slices rule least) = scope.Picture
extension_scope Ended = scope.Picture
extension_scope Closed = scope.Picture

-- where a unit stands matters for an extension alone
place_same : (q : State) (o : Outcome Kind) (body : List ℕ) → whole_body o (extension_scope q) body ≡ whole_body o (place_of q o) body
place_same Start o body = refl
place_same (Head rule d) (done kind.Slice) body = refl
place_same (Head rule d) (done kind.SequenceHeader) body = refl
place_same (Head rule d) (done kind.SequenceEnd) body = refl
place_same (Head rule d) (done kind.UserData) body = refl
place_same (Head rule d) (done kind.IPicture) body = refl
place_same (Head rule d) (done kind.Extension) body = refl
place_same (Head rule d) (done kind.PBPicture) body = refl
place_same (Head rule d) (done kind.EditCode) body = refl
place_same (Head rule d) (refused n carried) body = refl
place_same (InPicture rule) o body = refl
place_same (Slices rule n) o body = refl
place_same Ended o body = refl
place_same Closed o body = refl

pub scope_same : (q : State) (u : StreamUnit) → row_length (placed (extension_scope q) u) ≡ row_length (placed (scope_in q u) u)
unfolding row_length
scope_same q u = ap (λ (t : Bool). length (cond t u.body (trimmed u.body))) (place_same q (kind_of u.code) u.body)
