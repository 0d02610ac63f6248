use Rattle.cr_syntax_machine_laws.proofs.MachineRuns.{same, local}
use Rattle.cr_syntax_machine_laws.proofs.MachineComplete.{read_is_spelled, spelled_is_read, longest, refused, refused_within, ended_is_none}
use Rattle.cr_syntax_machine_laws.proofs.MachineViable.{begins_before}
use Rattle.cr_syntax_machine_laws.proofs.MachineReading.{is_reading}
use Rattle.cr_syntax_machine_laws.proofs.laws.machine_is_grammar.Goals as goal

pub returns : goal.returns
returns c = record {
  one_answer = λ ts limit p c i r r' h h'. same h h';
  no_further = λ ts us limit p c i r h f. local h f;
  sound = λ ts limit p h c e d i j t k x. read_is_spelled ts limit h k x;
  complete = λ ts limit p h c e d i j t k s f. spelled_is_read ts limit k s f;
  longest = λ ts limit s e j t k h. longest s k h;
  refused = λ ts limit s x k z n h. refused s z n h;
  within = λ ts most s x k z lt h. refused_within s z lt h;
  viable = λ ts most s x k z le h. begins_before ts most k le s x z h;
  readings = λ ts s r k le h. is_reading ts s r k le h;
  ended = λ ts limit s x t z n h y. ended_is_none s z n h y;
}
