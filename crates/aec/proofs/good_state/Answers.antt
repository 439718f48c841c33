-- Each range is tested in turn.
use native.Mathlib.Omega.{arith}
use Rattle.aec.proofs.RangeLaws.{ranges_state, bad_state}
use Rattle.aec.proofs.good_state.Goals as goal

pub returns-then-x : goal.returns-then-x
returns-then-x c = bad_state _ _ (λ g. omega arith)

pub returns-then-x-gt-MOST_BITS : goal.returns-then-x-gt-MOST_BITS
returns-then-x-gt-MOST_BITS c = bad_state _ _ (λ g. omega arith)

pub returns-then-x-gt255 : goal.returns-then-x-gt255
returns-then-x-gt255 c = bad_state _ _ (λ g. omega arith)

pub returns-then-x-gt255-2 : goal.returns-then-x-gt255-2
returns-then-x-gt255-2 c = bad_state _ _ (λ g. omega arith)

pub returns-then-end-x : goal.returns-then-end-x
returns-then-end-x c = bad_state _ _ (λ g. omega arith)

pub returns : goal.returns
returns c = ranges_state _ _ (record { rs = omega arith; vs = omega arith; rt = omega arith; vt = omega arith; place = omega arith })
