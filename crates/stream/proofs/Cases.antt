-- The worked cases, computed.
-- Assumes nothing.
use Rattle.std.proofs.Common.{refl}
use Rattle.automaton.specs.Text.{begins, begins_some, tail, same, member}
use Rattle.automaton.specs.States.{place, inits, inits_of, add, add_all, states, text_of, state_of, goto}
use Rattle.automaton.specs.Look.{last_word, look}
use Rattle.sequence.specs.Places.{place_of}
use Rattle.window.specs.Known.{overlay, onwards, none_known}
use Rattle.stream.specs.Steps.{run}
use Rattle.stream.specs.Cases.{outcomes, Cases}

pub cases : Cases
unfolding begins begins_some tail same member place inits inits_of add add_all states text_of state_of goto last_word look place_of overlay onwards none_known run outcomes
cases = ((refl, refl), ((refl, refl), ((refl, refl), ((refl, refl), ((refl, refl), (refl, ((refl, refl), ((refl, refl), ((refl, refl), tt)))))))))
