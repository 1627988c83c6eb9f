-- Faults of texts as those of a check.
use Rattle.f3_text.specs.declared.statement.TextFault.{TextFault}
use Rattle.f3_text.specs.declared.statement.TextFault.TheVariants as text_fault
use Rattle.f3_graph.specs.declared.CheckFault.{CheckFault}
use Rattle.f3_graph.specs.declared.CheckFault.TheVariants.{Refused, Memory}

-- a fault of the text, as one of the check
abbrev pub fault_of_text : TextFault → CheckFault
fault_of_text (text_fault.Refused refusal) = Refused refusal
fault_of_text text_fault.Memory = Memory
