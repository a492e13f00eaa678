-- A node that the code has at hand.
--     node_of            its numbers, as a node of the table
-- Assumes nothing: this is a definition.
use Rattle.format.specs.Nodes.{Node}
use Rattle.fields.specs.declared.Node.{Node as Numbers}

abbrev pub node_of : Numbers → Node
node_of r = record { symbol = r.symbol; depth = r.depth; first = r.first; names = r.names; nodes = r.nodes; width = r.width }
