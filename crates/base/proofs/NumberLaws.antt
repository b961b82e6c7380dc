-- No cause has the number 0, and a month is told beside 13 alone. Made from causes.txt by causes.py.
-- Assumes nothing.
use mathlib.Core.Path.{◌≡◌, refl}
use Prim.Native.Nat.{◌≤◌}
use native.Mathlib.Omega.{arith}
use Rattle.base.specs.Numbers.{number_of, month_of}
use Rattle.base.specs.declared.causes.Cause.{Cause}
use Rattle.base.specs.declared.causes.Cause.TheVariants.{CalendarLength, CalendarTail, CalendarMonth, RegisterLength, RegisterForm, Running, Empty, StartDay, SessionDay, TooLate, Close, AnnounceMonth, AnnouncePrice, AnnounceKnown, AnnounceFull, RowsMonth, NameLength, NameSeries, NameByte, OutputLength, FileForm}

pub number-from : (cause : Cause) → 11 ≤ number_of cause
number-from CalendarLength = omega arith
number-from CalendarTail = omega arith
number-from (CalendarMonth _) = omega arith
number-from RegisterLength = omega arith
number-from RegisterForm = omega arith
number-from Running = omega arith
number-from Empty = omega arith
number-from StartDay = omega arith
number-from SessionDay = omega arith
number-from TooLate = omega arith
number-from Close = omega arith
number-from AnnounceMonth = omega arith
number-from AnnouncePrice = omega arith
number-from AnnounceKnown = omega arith
number-from AnnounceFull = omega arith
number-from RowsMonth = omega arith
number-from NameLength = omega arith
number-from NameSeries = omega arith
number-from (NameByte _) = omega arith
number-from OutputLength = omega arith
number-from (FileForm _) = omega arith

pub month-beside : (cause : Cause) → (number_of cause ≡ 13 → ⊥) → month_of cause ≡ 0
month-beside CalendarLength other = refl
month-beside CalendarTail other = refl
month-beside (CalendarMonth _) other = absurd (other refl)
month-beside RegisterLength other = refl
month-beside RegisterForm other = refl
month-beside Running other = refl
month-beside Empty other = refl
month-beside StartDay other = refl
month-beside SessionDay other = refl
month-beside TooLate other = refl
month-beside Close other = refl
month-beside AnnounceMonth other = refl
month-beside AnnouncePrice other = refl
month-beside AnnounceKnown other = refl
month-beside AnnounceFull other = refl
month-beside RowsMonth other = refl
month-beside NameLength other = refl
month-beside NameSeries other = refl
month-beside (NameByte _) other = refl
month-beside OutputLength other = refl
month-beside (FileForm _) other = refl
