-- Q-2: what the program `retrylist` prints of a graph file. Assumes nothing.
use Rattle.text.specs.Text.{Text}
use Rattle.formula.specs.File.{File}
use Rattle.formula.specs.Graph.{graph_of}
use Rattle.checks.specs.Refusals.{Answer, accepted, refused, verdict}
use Rattle.listing.specs.Listing.{listing}
use Rattle.refusals.specs.Line.{refusal_text}

abbrev pub printed_by : File → Answer → Text
printed_by f (accepted m) = listing (graph_of f m)
printed_by f (refused k is) = refusal_text k is

-- the listing, or `refused N` as retrysolve prints it
unfoldable pub printed : File → Text
printed f = printed_by f (verdict f)
