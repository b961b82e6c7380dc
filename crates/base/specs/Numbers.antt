-- The numbers of the causes, and what is told beside them. Made from causes.txt by causes.py.
-- Assumes nothing.
use Rattle.std.specs.Prelude.{◌≡◌, ◌≢◌, ℕ, Result, Ok, Err, MatchResult}
use Rattle.base.specs.declared.causes.Cause.{Cause}
use Rattle.base.specs.declared.causes.Cause.TheVariants.{CalendarLength, CalendarTail, CalendarMonth, RegisterLength, RegisterForm, Running, Empty, StartDay, SessionDay, TooLate, Close, AnnounceMonth, AnnouncePrice, AnnounceKnown, AnnounceFull, RowsMonth, NameLength, NameSeries, NameByte, OutputLength, FileForm}
use Rattle.base.specs.declared.causes.NoCause.{NoCause}

abbrev pub number_of : Cause → ℕ
number_of CalendarLength = 11
number_of CalendarTail = 12
number_of (CalendarMonth _) = 13
number_of RegisterLength = 14
number_of RegisterForm = 15
number_of Running = 16
number_of Empty = 17
number_of StartDay = 18
number_of SessionDay = 19
number_of TooLate = 20
number_of Close = 21
number_of AnnounceMonth = 22
number_of AnnouncePrice = 23
number_of AnnounceKnown = 24
number_of AnnounceFull = 25
number_of RowsMonth = 26
number_of NameLength = 27
number_of NameSeries = 28
number_of (NameByte _) = 29
number_of OutputLength = 30
number_of (FileForm _) = 31

-- the month that a calendar's cause tells; 0 where none is told
abbrev pub month_of : Cause → ℕ
month_of CalendarLength = 0
month_of CalendarTail = 0
month_of (CalendarMonth month) = month
month_of RegisterLength = 0
month_of RegisterForm = 0
month_of Running = 0
month_of Empty = 0
month_of StartDay = 0
month_of SessionDay = 0
month_of TooLate = 0
month_of Close = 0
month_of AnnounceMonth = 0
month_of AnnouncePrice = 0
month_of AnnounceKnown = 0
month_of AnnounceFull = 0
month_of RowsMonth = 0
month_of NameLength = 0
month_of NameSeries = 0
month_of (NameByte _) = 0
month_of OutputLength = 0
month_of (FileForm _) = 0

-- the month or the place; 0 where nothing is told
abbrev pub beside_of : Cause → ℕ
beside_of CalendarLength = 0
beside_of CalendarTail = 0
beside_of (CalendarMonth value) = value
beside_of RegisterLength = 0
beside_of RegisterForm = 0
beside_of Running = 0
beside_of Empty = 0
beside_of StartDay = 0
beside_of SessionDay = 0
beside_of TooLate = 0
beside_of Close = 0
beside_of AnnounceMonth = 0
beside_of AnnouncePrice = 0
beside_of AnnounceKnown = 0
beside_of AnnounceFull = 0
beside_of RowsMonth = 0
beside_of NameLength = 0
beside_of NameSeries = 0
beside_of (NameByte value) = value
beside_of OutputLength = 0
beside_of (FileForm value) = value

-- the number that a result tells: its cause's, or 0
abbrev pub number_in : {A : Type 0} → Result A Cause → ℕ
number_in (Ok _) = 0
number_in (Err cause) = number_of cause

-- what a number is read as: the cause that has it, or that none has it
abbrev pub NamesCause : ℕ → Result Cause NoCause → Type 0
NamesCause n r = MatchResult r (λ cause. number_of cause ≡ n) (λ _. (cause : Cause) → number_of cause ≢ n)
