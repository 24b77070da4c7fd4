-- The refusal table of document 01, with request E6's 11: the number and the place that stand for each refusal.
use Rattle.std.specs.Prelude.{ℕ}
use Rattle.flow.specs.declared.Refusal.{Refusal}
use Rattle.flow.specs.declared.Refusal.TheVariants.{TooLong, Record, Header, Kind, Target, Member, ReturnReference, Order, Trailing, Areas, Mask}

abbrev pub number_of : Refusal → ℕ
number_of TooLong = 1
number_of (Record p) = 2
number_of (Header p) = 3
number_of (Kind p) = 4
number_of (Target p) = 5
number_of (Member p) = 6
number_of (ReturnReference p) = 7
number_of (Order p) = 8
number_of (Trailing p) = 9
number_of Areas = 10
number_of (Mask p) = 11

abbrev pub place_of : Refusal → ℕ
place_of TooLong = 0
place_of (Record p) = p
place_of (Header p) = p
place_of (Kind p) = p
place_of (Target p) = p
place_of (Member p) = p
place_of (ReturnReference p) = p
place_of (Order p) = p
place_of (Trailing p) = p
place_of Areas = 0
place_of (Mask p) = p
