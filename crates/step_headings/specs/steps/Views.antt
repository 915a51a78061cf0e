-- The headings of a program's value, and which structures they belong to.
use Rattle.std.specs.Prelude.{◌≡◌, List, map}
use Rattle.step_structures.specs.Trees.{File}
use Rattle.step_exchange.specs.Sections.{heading_of}
use Rattle.step_exchange.specs.declared.section.Section.{Section}
use Rattle.step_headings.specs.Headings.{Heading, heading_items, headings}
use Rattle.step_headings.specs.declared.headings.Headings.{Headings}

-- the heading of a section
abbrev pub heading_seen : Section → Heading
heading_seen s = heading_items (heading_of s.heading)

-- these are the headings of a structure's sections
abbrev pub AreHeadingsOf : Headings → File → Type 0
AreHeadingsOf h f = map heading_seen h.sections.items ≡ headings f
