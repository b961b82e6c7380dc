-- `calendar::live_months` meets its contract: the quarter's month is the first of its kind from `first + 3` on.
-- Assumes nothing.
use Rattle.calendar.specs.Live.{live_months}
use Rattle.calendar.proofs.LiveLaws.{quarter_is}
use Rattle.calendar.proofs.live_months.Goals as goal

pub returns : goal.returns
unfolding live_months
returns c = rw (quarter_is c.args.first)
