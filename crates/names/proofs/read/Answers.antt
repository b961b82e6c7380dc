-- `names::read` meets its contract: each return by the causes that led there. The array that is looked at holds the name's bytes.
-- Assumes nothing.
use Rattle.std.proofs.Common.{◌≡◌, sym, ◌∙◌, length}
use Rattle.base.proofs.SearchLaws.{at_found, none_found}
use Rattle.names.specs.Names.{name_length, no_series, misplaced, month_read, kind_read, price_read, read_of}
use Rattle.names.proofs.RefusalLaws.{read_27, read_29, read_28, read_0}
use Rattle.names.proofs.read.Goals as goal

pub returns-in_default : goal.returns-in_default
unfolding read_of
returns-in_default c = rw (read_27 c.args.name.now c.in_default.ensures.1)

pub returns-in-Some : goal.returns-in-Some
unfolding read_of
returns-in-Some c =
    let whole = c.in-Ok.ensures.1 in
    let name = c.in-Ok.name.now in
    let long : length name ≡ name_length = rw whole.same whole.long in
    let found = at_found (misplaced name) 0 name_length c.in-Some.place c.in-Some.ensures in
    rw (← whole.same, read_29 name long (rw found.0 found.1), found.0)

pub returns-then-no_series : goal.returns-then-no_series
unfolding read_of
returns-then-no_series c =
    let whole = c.in-Ok.ensures.1 in
    let name = c.in-Ok.name.now in
    let long : length name ≡ name_length = rw whole.same whole.long in
    let placed = none_found (misplaced name) 0 name_length c.in_default-first_misplaced.ensures in
    let told = c.told-named.ensures in
    let tested : no_series (month_read name) (kind_read name) (price_read name) ≡ c.no_series.result = rw (← told.0, ← told.1, ← told.2, ← c.from.ensures, ← c.from-2.ensures) (sym c.no_series.ensures) in
    rw (← whole.same, read_28 name long placed (tested ∙ c.if-no_series.true))

pub returns : goal.returns
unfolding read_of
returns c =
    let whole = c.in-Ok.ensures.1 in
    let name = c.in-Ok.name.now in
    let long : length name ≡ name_length = rw whole.same whole.long in
    let placed = none_found (misplaced name) 0 name_length c.in_default-first_misplaced.ensures in
    let told = c.told-named.ensures in
    let tested : no_series (month_read name) (kind_read name) (price_read name) ≡ c.no_series.result = rw (← told.0, ← told.1, ← told.2, ← c.from.ensures, ← c.from-2.ensures) (sym c.no_series.ensures) in
    rw (← whole.same, read_0 name long placed (tested ∙ c.if-no_series.false), told.0, told.1, told.2)
