-- The example, computed.
-- Assumes nothing.
use Rattle.std.proofs.Common.{refl}
use Rattle.automaton.specs.Text as text
use Rattle.automaton.specs.Look.{last_word, look}
use Rattle.packet.specs.Bytes as bytes
use Rattle.packet.specs.Bytes.{write16, write32}
use Rattle.packet.specs.Checksum.{sum16, fold, fresh, right}
use Rattle.packet.specs.Packet.{good_header, tcp, segment, pseudo, right_header_sum, right_segment_sum, too_long, wrong_sum, read, seal, edit, rewrite, reset}
use Rattle.sequence.specs.Places.{place_of}
use Rattle.window.specs.Known.{overlay, onwards, none_known}
use Rattle.filter.specs.Gate.{among, only}
use Rattle.filter.specs.Decide.{run}
use Rattle.filter.specs.Promise.{passed}
use Rattle.filter.specs.Example.{Example}

pub example : Example
unfolding text.same text.member last_word look bytes.same write16 write32 sum16 fold fresh right good_header tcp segment pseudo right_header_sum right_segment_sum too_long wrong_sum read seal edit rewrite reset place_of overlay onwards none_known among only run passed
example =
    record {
      begins = refl;
      stays = (record { not_anew = refl; held = refl }, (record { not_anew = refl; held = refl }, (record { not_anew = refl; held = refl }, tt)));
      text = refl;
      low = refl;
      shut = refl;
      pieces = refl;
      anew = refl;
    }
