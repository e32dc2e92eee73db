-- What the code answers, against what is meant.
use Rattle.std.specs.Prelude.{Option, Some, None, Result}
use Rattle.corr_text.specs.Answers as answers
use Rattle.fin_blocks.specs.declared.fault.BlockFault.{BlockFault}
use Rattle.fin_blocks.specs.declared.fault.BlockFault.TheVariants as block
use Rattle.fin_message.specs.Heading.{at_block}
use Rattle.fin_message.specs.Verdict.{Refused, block_tag}
use Rattle.fin_message.specs.declared.fault.MessageFault.{MessageFault}
use Rattle.fin_message.specs.declared.fault.MessageFault.TheVariants as message

-- the refusal that an error tells, none where memory is out
abbrev pub told : MessageFault → Option Refused
told (message.Refused mir fault) = Some (mir, fault)
told message.Memory = None

-- an answer is the one that is meant, or out of memory
abbrev pub Answers : {A : Type 0} → Result A MessageFault → Result A Refused → Type 0
Answers result meant = answers.Answers told meant result

-- a place that is filled holds what is meant
abbrev pub Fills : {A B : Type 0} → Result B MessageFault → A → Result A Refused → Type 0
Fills result place meant = Answers (answers.left_in place result) meant

-- faults of blocks and of lines, as the code carries them
abbrev pub fault_of_blocks : BlockFault → MessageFault
fault_of_blocks (block.Bad refusal mir) = message.Refused mir (at_block refusal (block_tag refusal))
fault_of_blocks block.Memory = message.Memory
