-- One step after another, over a value or why there is none: what layers hand each other. Document 01's number for it comes in where
-- an answer is said.
use Rattle.std.specs.Prelude.{Result, Ok, Err}

infixl 10 ◌>>=◌
-- `x ← e` goes on with the value of e
abbrev pub ◌>>=◌ : {E A B : Type 0} → Result A E → (A → Result B E) → Result B E
◌>>=◌ (Ok a) rest = rest a
◌>>=◌ (Err why) rest = Err why

-- another value for one that is there
abbrev pub map_ok : {E A B : Type 0} → (A → B) → Result A E → Result B E
map_ok f (Ok a) = Ok (f a)
map_ok f (Err why) = Err why
