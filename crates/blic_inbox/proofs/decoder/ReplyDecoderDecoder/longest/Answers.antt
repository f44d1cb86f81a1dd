use Rattle.blic_inbox.proofs.Short.{partial_short}
use Rattle.blic_inbox.proofs.decoder.ReplyDecoderDecoder.longest.Goals as goal

pub returns-clause-enough : goal.returns-clause-enough
returns-clause-enough c = partial_short
