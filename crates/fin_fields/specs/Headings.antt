-- The code's heading of a line, as the definitions see it.
use Rattle.fin_fields.specs.declared.heading_line.HeadingLine.{HeadingLine}
use Rattle.fin_fields.specs.Fields.{Heading}

-- what the code keeps of a heading
abbrev pub heading_in : HeadingLine → Heading
heading_in h = record { tag = h.tag; letter = h.letter; content = h.content.now }
