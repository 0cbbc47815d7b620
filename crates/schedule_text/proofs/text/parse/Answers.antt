use Rattle.schedule_text.proofs.Answered.{told-found, told-one, told-only, told-refused, told-first, told-limits}
use Rattle.schedule_text.proofs.text.parse.Goals as goal

pub returns-clause-found : goal.returns-clause-found
returns-clause-found c = told-found _ _ c.schedule_of.ensures

pub returns-clause-one : goal.returns-clause-one
returns-clause-one c = told-one _ _ c.schedule_of.ensures

pub returns-clause-only : goal.returns-clause-only
returns-clause-only c = told-only _ _ c.schedule_of.ensures

pub returns-clause-refused : goal.returns-clause-refused
returns-clause-refused c = told-refused _ _ c.schedule_of.ensures

pub returns-clause-first : goal.returns-clause-first
returns-clause-first c = told-first _ _ c.schedule_of.ensures

pub returns-clause-limits : goal.returns-clause-limits
returns-clause-limits c = told-limits _ _ c.schedule_of.ensures
