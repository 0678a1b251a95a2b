-- What a text that is not read tells, as a number and a place.
use Rattle.std.specs.Prelude.{ℕ}
use Rattle.smtreader.specs.declared.ReadError.{ReadError}
use Rattle.smtreader.specs.declared.ReadError.TheVariants.{Stop, Room}

abbrev pub number_of : ReadError → ℕ
number_of (Stop p) = 41
number_of Room = 6

abbrev pub place_of : ReadError → ℕ
place_of (Stop p) = p
place_of Room = 0
