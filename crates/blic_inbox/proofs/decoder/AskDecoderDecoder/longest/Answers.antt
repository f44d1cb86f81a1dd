use Rattle.blic_messages.proofs.AskBodies.{asks_short}
use Rattle.blic_inbox.proofs.decoder.AskDecoderDecoder.longest.Goals as goal

pub returns-clause-enough : goal.returns-clause-enough
returns-clause-enough c = asks_short
