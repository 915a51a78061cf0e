-- The layout of the program's partition.
use Rattle.partitions.specs.declared.parts.Parts.{Parts}
use Rattle.partitions.specs.Layouts.{Layout}

abbrev pub layout : Parts → Layout
layout p = record {
  class = p.class.items;
  index = p.index.items;
  order = p.order.items;
  first = p.first.items;
  middle = p.middle.items;
  end = p.end.items;
  parent = p.parent.items;
}
