use Rattle.blic_messages.proofs.AskFronts.{whole, spelled, stays, broken, one, begins}
use Rattle.blic_messages.proofs.laws.ask_front_law.Goals as goal

pub returns-clause-whole : goal.returns-clause-whole
returns-clause-whole c = whole

pub returns-clause-read : goal.returns-clause-read
returns-clause-read c = spelled

pub returns-clause-stay : goal.returns-clause-stay
returns-clause-stay c = stays

pub returns-clause-broken : goal.returns-clause-broken
returns-clause-broken c = broken

pub returns-clause-prefix : goal.returns-clause-prefix
returns-clause-prefix c = one

pub returns-clause-partial : goal.returns-clause-partial
returns-clause-partial c = begins
