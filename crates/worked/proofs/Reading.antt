-- The examples of reading a frame: two follow from the limits, and the others compute.
use Rattle.std.proofs.Common.{refl, arith}
use Rattle.std.proofs.lemmas.Bool.Decides.{nat_tests}
use Rattle.packet.specs.Frames.{key_of, ipv4_of, transport_of}
use Rattle.worked.specs.Reading.{ReadingExamples}

pub reading_examples : ReadingExamples
unfolding key_of ipv4_of transport_of
reading_examples =
    record {
      short = λ f h. grind (arith, nat_tests);
      shortest = λ f h t. grind (arith, nat_tests);
      vlan = refl;
      vlan_zero = refl;
      length_word = refl;
      first_type = refl;
      whole = refl;
      first = refl;
      middle = refl;
      last = refl;
      ports = refl;
      no_ports = refl;
      cut_key = refl;
      cut_header = refl;
      cut_transport = refl;
    }
