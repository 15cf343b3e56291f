-- `timetable::write` meets its contract: records and atoms are each stored where the part before them ends, and the header last.
-- The longest table fits the room, so the parts begin and end within it.
use Prim.Native.Nat.{◌+◌, ◌-◌}
use mathlib.Core.List.{◌++◌}
use native.Mathlib.Omega.{arith}
use lib.ListN.{length, take, drop}
use Rattle.basics.specs.inner.Bitmaps.{marked_from}
use Rattle.timetable.specs.Table.{records_of, record_bytes, atom_bytes, header_length}
use Rattle.timetable.specs.inner.Given.{time_at}
use Rattle.timetable.proofs.Marks.{few-marked}
use Rattle.timetable.proofs.Stores.{part-stored}
use Rattle.timetable.proofs.Writing.{table-stored}
use Rattle.timetable.proofs.write.Goals as goal

pub write_names-a-requires-clause-names_in_bounds : goal.write_names-a-requires-clause-names_in_bounds
write_names-a-requires-clause-names_in_bounds c = omega (arith, few-marked c.args.names.now 0)

pub write_atoms-b-requires-clause-atoms_in_bounds : goal.write_atoms-b-requires-clause-atoms_in_bounds
write_atoms-b-requires-clause-atoms_in_bounds c = omega (arith, few-marked c.args.atoms.now 1)

pub returns : goal.returns
returns c =
    let write-header = c.write_header in
    let write-names = c.write_names-a in
    let write-atoms = c.write_atoms-b in
    let names = c.args.names.now in
    let times = c.args.times.now in
    let atoms = c.args.atoms.now in
    let l = c.args.room.now in
    let at = header_length + write-names.result in
    let records = record_bytes (records_of (marked_from 0 names) (time_at times)) in
    let p₁ = c.write_names-a.new.part in
    let p₂ = c.write_atoms-b.new.part in
    let r₁ = take header_length l ++ (p₁ ++ drop (length l - header_length) (drop header_length l)) in
    let r₂ = take at r₁ ++ (p₂ ++ drop (length r₁ - at) (drop at r₁)) in
    let s₁ = part-stored l p₁ header_length records (omega arith) c.write_names-a.ensures.part_after in
    let s₂ = part-stored r₁ p₂ at (atom_bytes (marked_from 1 atoms)) (omega arith) c.write_atoms-b.ensures.part_after in
    table-stored l r₁ r₂ c.write_header.new.room names times atoms write-names.result write-atoms.result c.requires.writer_rooms.room-long
    c.write_names-a.ensures.value.1 c.write_atoms-b.ensures.value.1 c.write_names-a.ensures.value.0 c.write_atoms-b.ensures.value.0 s₁ s₂
    write-header.ensures
