-- A conversation before its first ask.
use Rattle.std.proofs.Common.{ℕ, ◌≡◌, refl, sym, subst, []}
use Rattle.blic_model.specs.Circuit.{OrderedCircuit}
use Rattle.blic_messages.specs.declared.ask.Hello.{Hello as HelloOf}
use Rattle.blic_messages.specs.declared.ask.Ask.{Ask}
use Rattle.blic_messages.specs.declared.ask.Ask.TheVariants.{Hello}
use Rattle.blic_prover.specs.Honest.{progress, Waiting}
use Rattle.blic_prover.specs.Standing.{Proving}
use Rattle.blic_prover.specs.Standing.{ServesFor}
use Rattle.blic_verifier.specs.Asking.{Asking}
use Rattle.blic_verifier.specs.Asking.{IsAt as AskerIsAt}
use Rattle.blic_verifier.specs.Conversation.{Awaits, beginning}
use Rattle.blic_verifier.specs.Verdict.{Silent}
use Rattle.blic_talk.specs.Talking.{IsAsked}

pub nothing_asked : (c : OrderedCircuit) (h : HelloOf) → progress c h [] ≡ Waiting
unfolding progress
nothing_asked c h = refl

-- Hello stands next
pub at_start : (p : Proving) (h : HelloOf) (ask : Ask) (n : ℕ) → ServesFor p [] → p.served ≡ h → ask ≡ Hello h → n ≡ 0 → IsAsked p [] ask Silent n
at_start p h ask n silent served is place =
    subst (λ a. IsAsked p [] a Silent n) (sym is) (record { stands = silent; next = (sym served, nothing_asked p.circuit p.served); left = place })

pub asker_at_start : (a : Asking) (ask : Ask) → AskerIsAt a (beginning a.about) → ask ≡ Hello a.about.hello → AskerIsAt a (Awaits ask Silent a.draws.place)
asker_at_start a ask at is = subst (λ z. AskerIsAt a (Awaits z Silent a.draws.place)) (sym is) (at.0, refl, at.2, at.3, at.1)
