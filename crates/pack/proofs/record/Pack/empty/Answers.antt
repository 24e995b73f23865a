use Rattle.std.proofs.Common.{refl}
use Rattle.wire.specs.Answer.{bind, byte, counted, many, u16}
use Rattle.wire.specs.Code.{next, onward, skip, skips}
use Rattle.pack_rules.specs.Read.{name_section, names_after}
use Rattle.pack.specs.Verdict.{count_of, empty_record, name_count, names_of, names_or, offset_of, past_activations, past_enums, past_machines, past_names, past_nodes, past_origins, sections_of}
use Rattle.pack.proofs.record.Pack.empty.Goals as goal

pub returns : goal.returns
unfolding empty_record sections_of name_count count_of names_of names_or offset_of past_names past_enums past_nodes past_machines past_activations past_origins onward next skips skip name_section names_after bind byte u16 many counted
returns c = refl
