-- The plans of the six months of a start or a session. Contracts of leaves cite this file.
-- Assumes nothing.
use Rattle.std.specs.Prelude.{ℕ}
use Rattle.ladders.specs.declared.Plan.{Plan}
use Rattle.ladders.specs.declared.plans.Plans.{Plans}
use Rattle.ladders.specs.declared.plans.AnyPlans.{AnyPlans}
use Rattle.layout.specs.Origins.{origin_code}
use Rattle.ladders.specs.Writing.{plan_at}

-- the plan of the month at a position
abbrev pub plan_of : Plans → ℕ → Plan
plan_of p = plan_at p.day (origin_code p.origin) p.months p.held p.wide p.spans

-- the same where the origin is any byte
abbrev pub any_plan_of : AnyPlans → ℕ → Plan
any_plan_of p = plan_at p.day p.origin p.months p.held p.wide p.spans
