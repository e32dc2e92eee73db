use Rattle.work_pool.proofs.streaming.serve_feed.Goals as goal

pub returns-clause-helpers : goal.returns-clause-helpers
returns-clause-helpers g c = c.join.ensures.first.0

pub returns-clause-help : goal.returns-clause-help
returns-clause-help g c = c.join.ensures.first.1

pub returns-clause-ready : goal.returns-clause-ready
returns-clause-ready g c = c.join.ensures.second.0

pub returns-clause-goes : goal.returns-clause-goes
returns-clause-goes g c = c.join.ensures.second.1.0

pub returns-clause-fed : goal.returns-clause-fed
returns-clause-fed g c = c.join.ensures.second.1.1
