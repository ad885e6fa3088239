-- The model of a reader's fields in contracts.
use Rattle.ring_audit.specs.PutReading.{PutReading}
use Rattle.ring_audit.specs.declared.puts.PutReader.TheInside.{Inside}

-- the model of a reader of puts
abbrev pub put_reading_of : Inside → PutReading
put_reading_of r =
    record { shape = r.shape; count = r.count; next = r.next; cell = r.cell; stage = r.stage; scan = r.scan; word = r.word; room = r.room; some = r.some; row = r.row; open_access = r.open_access }
