-- Buffers for a trail.
use Rattle.std.specs.Prelude.{ℕ, List, Option, None, Some}
use Rattle.hv_propagation.specs.declared.buffers.Buffers.{Buffers}
use Rattle.hv_propagation.specs.declared.buffers.OwnBuffers.{OwnBuffers}

-- its own row of places, or else the lent one
abbrev pub places_of : Option OwnBuffers → List ℕ → List ℕ
places_of None lent = lent
places_of (Some rows) lent = rows.places.items

-- its own row of entries, or else the lent one
abbrev pub queue_of : Option OwnBuffers → List ℕ → List ℕ
queue_of None lent = lent
queue_of (Some rows) lent = rows.queue.items

-- the row of places
abbrev pub places_in : Buffers → List ℕ
places_in buffers = places_of buffers.own buffers.places.now

-- the row of entries
abbrev pub queue_in : Buffers → List ℕ
queue_in buffers = queue_of buffers.own buffers.queue.now
