-- What is so of a heap's region and its book at all times (own rule).
use Rattle.std.specs.Prelude.{◌≡◌, List}
use Rattle.f3_raw.specs.Region.{region_words, region_size}
use Rattle.f3_raw.specs.declared.region.Region.{Region}
use Rattle.f3_heap.specs.declared.arena.Book.{Book}
use Rattle.f3_live_blocks.specs.Blocks.{Live}
use Rattle.f3_heap_laws.specs.Segments.{Segment, segments, live_segments, IsHeap}
use Rattle.f3_heap_laws.specs.Hints.{AreHints}

-- its blocks and free blocks, in order of place
abbrev pub segments_in : Region → Book → List Segment
segments_in region book = segments (region_words region) book.end

abbrev pub live_in : Region → Book → Live
live_in region book = live_segments (segments_in region book)

pub record IsArena (region : Region) (book : Book) : Type 0 where
  pub heap : IsHeap (region_words region) (region_size region) book.size book.first book.end book.used
  pub hints : AreHints book.size (segments_in region book) book.hints
  pub room : region_size region ≡ book.size
