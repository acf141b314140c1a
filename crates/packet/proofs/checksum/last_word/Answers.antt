use Rattle.std.proofs.Common.{arith}
use Rattle.std.proofs.lemmas.List.{get_or_past}
use Rattle.packet.proofs.SumLaws.{little_last}
use Rattle.packet.proofs.checksum.last_word.Goals as goal

pub returns-in-len1 : goal.returns-in-len1
returns-in-len1 c = grind (arith, little_last, get_or_past)

pub returns-in-len2 : goal.returns-in-len2
returns-in-len2 c = grind (arith, little_last, get_or_past)

pub returns-in-len3 : goal.returns-in-len3
returns-in-len3 c = grind (arith, little_last, get_or_past)

pub returns-in_default : goal.returns-in_default
returns-in_default c = grind (arith, little_last, get_or_past)
