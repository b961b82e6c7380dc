-- `passing::scan_months` meets its contract. The loop keeps an equation: what is left to search decides as the whole would.
-- Assumes nothing.
use Rattle.std.proofs.Common.{◌≡◌, ◌∙◌, ◌||◌, ◌+◌, ◌-◌, ◌≤◌, ℕ, zero, suc, Bool, refl, sym, ap, get_or, arith, rules, tests}
use Rattle.std.specs.List.{list_any, range_with_len}
use Rattle.std.proofs.lemmas.Iterator.{YieldsList-from_range}
use Rattle.std.proofs.lemmas.Iterator.Search.{any_from_yields_List}
use Rattle.base.specs.Search.{some_in}
use Rattle.base.proofs.SearchLaws.{first_end, first_hit, first_miss, found_at, found-none, some_first, some-empty}
use Rattle.dates.specs.Months.{month_count, third_friday}
use Rattle.dates.proofs.MonthLaws.{third-friday_is, third-friday_rule, third-friday-below}
use Rattle.calendar.specs.Calendar.{session, lacks, first_lacking}
use Rattle.calendar.proofs.CalendarLaws.{lacks_parts}
use Rattle.passing.proofs.scan_months.Goals as goal

any_from : (p : ℕ → Bool) (n a : ℕ) → list_any p (range_with_len a n) ≡ some_in p a (a + n)
any_from p zero a = sym (some-empty p a (a + 0) (omega arith))
any_from p (suc n) a =
    let e : a + 1 + n ≡ a + suc n = omega arith in
    ap (λ (b : Bool). p a || b) (any_from p n (a + 1) ∙ ap (some_in p (a + 1)) e) ∙ sym (some_first p a (a + suc n) (omega arith))

any_some : (p : ℕ → Bool) (a b : ℕ) → a ≤ b → list_any p (range_with_len a (b - a)) ≡ some_in p a b
any_some p a b h = let e : a + (b - a) ≡ b = omega arith in any_from p (b - a) a ∙ ap (some_in p a) e

pub returns-in_err-from : goal.returns-in_err-from
unfolding first_lacking
returns-in_err-from c = c.from_residual.ensures ∙ sym (found-none (lacks c.args.calendar.now) 0 month_count c.in_err-from.ensures)

pub loop-month-init : goal.loop-month-init
unfolding first_lacking
loop-month-init c = c.in_ok-from.ensures.1

pub overflow_sub-before : goal.overflow_sub-before
overflow_sub-before c =
    let m = c.loop-month.month in
    let last : get_or c.args.fridays.now c.from.result 0 ≡ third_friday m = rw c.from.ensures (c.requires.each m c.loop-month-test.true) in
    omega (arith, last, third-friday_is m)

pub recent_session-requires : goal.recent_session-requires
recent_session-requires c =
    let m = c.loop-month.month in
    let last : get_or c.args.fridays.now c.from.result 0 ≡ third_friday m = rw c.from.ensures (c.requires.each m c.loop-month-test.true) in
    omega (arith, last, third-friday_is m, third-friday-below m c.loop-month-test.true)

pub returns-then-not-any : goal.returns-then-not-any
unfolding first_lacking
returns-then-not-any c =
    let p = lacks c.args.calendar.now in
    let s = session c.args.calendar.now in
    let m = c.loop-month.month in
    let last : get_or c.args.fridays.now c.from.result 0 ≡ third_friday m = rw c.from.ensures (c.requires.each m c.loop-month-test.true) in
    let first = c.first_day.ensures in
    let ran = any_from_yields_List s _ _ c.any.result c.any.ensures.ran (YieldsList-from_range c.first_day.result (get_or c.args.fridays.now c.from.result 0 - 14) _ refl refl) (λ x b q k. search (rules, tests)) in
    let any = rw (first, last) at (ran ∙ any_some s c.first_day.result (get_or c.args.fridays.now c.from.result 0 - 14) (omega (arith, first, last, (third-friday_rule m).from))) in
    let none = rw last at (sym c.recent_session.ensures ∙ c.if-recent_session.false) in
    let lacks-all = lacks_parts c.args.calendar.now m ∙ rw (none, sym any ∙ c.if-not-any.true) in
    sym (found_at p 0 month_count m c.loop-month-test.true (c.loop-month.invariant ∙ first_hit p m month_count c.loop-month-test.true lacks-all))

pub loop-month-preserved-then-recent_session : goal.loop-month-preserved-then-recent_session
loop-month-preserved-then-recent_session c =
    let m = c.loop-month.month in
    let last : get_or c.args.fridays.now c.from.result 0 ≡ third_friday m = rw c.from.ensures (c.requires.each m c.loop-month-test.true) in
    let recent = rw last at (sym c.recent_session.ensures ∙ c.if-recent_session.true) in
    c.loop-month.invariant ∙ first_miss _ _ _ c.loop-month-test.true (lacks_parts _ m ∙ rw recent)

pub loop-month-preserved : goal.loop-month-preserved
loop-month-preserved c =
    let s = session c.args.calendar.now in
    let m = c.loop-month.month in
    let last : get_or c.args.fridays.now c.from.result 0 ≡ third_friday m = rw c.from.ensures (c.requires.each m c.loop-month-test.true) in
    let first = c.first_day.ensures in
    let ran = any_from_yields_List s _ _ c.any.result c.any.ensures.ran (YieldsList-from_range c.first_day.result (get_or c.args.fridays.now c.from.result 0 - 14) _ refl refl) (λ x b q k. search (rules, tests)) in
    let any = rw (first, last) at (ran ∙ any_some s c.first_day.result (get_or c.args.fridays.now c.from.result 0 - 14) (omega (arith, first, last, (third-friday_rule m).from))) in
    let none = rw last at (sym c.recent_session.ensures ∙ c.if-recent_session.false) in
    c.loop-month.invariant ∙ first_miss _ _ _ c.loop-month-test.true (lacks_parts c.args.calendar.now m ∙ rw (none, sym any ∙ c.if-not-any.false))

pub returns : goal.returns
unfolding first_lacking
returns c =
    let p = lacks c.args.calendar.now in
    sym (found-none p 0 month_count (omega (arith, c.loop-month.invariant, first_end p c.loop-month.month month_count (omega arith))))
