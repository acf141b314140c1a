-- Why a packet does not go out. Assumes nothing.
use Rattle.stream.specs.declared.answer.Refused.{Refused as Untaken}
use Rattle.stream.specs.declared.answer.Refused.TheVariants as untaken
use Rattle.filter.specs.declared.dropped.Dropped.{Dropped}
use Rattle.filter.specs.declared.dropped.Dropped.TheVariants.{Refused, Word}
use Rattle.filter.specs.declared.dropped.Refusal.TheVariants.{Shut}

-- why a segment does not go out of which its stream takes nothing
abbrev pub dropped_for : Untaken → Dropped
dropped_for (untaken.Word w) = Word w
dropped_for untaken.Shut = Refused Shut
