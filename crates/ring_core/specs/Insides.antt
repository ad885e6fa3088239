-- The model of a machine's fields in contracts.
use Rattle.std.specs.Prelude.{take}
use Rattle.ring_core.specs.ConsumerState.{ConsumerState}
use Rattle.ring_core.specs.ProducerState.{ProducerState}
use Rattle.ring_core.specs.declared.consumers.Consumer.TheInside as consumer
use Rattle.ring_core.specs.declared.producers.Producer.TheInside as producer

-- the model of a producer's fields
abbrev pub producer_view : producer.Inside → ProducerState
producer_view p = record {
  shape = p.shape;
  count = p.count;
  cell = p.cell;
  stage = p.stage;
  scan = p.scan;
  word = p.word;
  row = p.row;
  closed = p.closed;
  items = take p.offered p.items;
  most = p.most;
  index = p.index;
  batched = p.batched;
  reply = p.reply;
}

-- the model of a consumer's fields
abbrev pub consumer_view : consumer.Inside → ConsumerState
consumer_view p = record {
  shape = p.shape;
  count = p.count;
  cell = p.cell;
  stage = p.stage;
  scan = p.scan;
  word = p.word;
  row = p.row;
  told = p.told;
  items = take p.taken p.items;
  wanted = p.wanted;
  most = p.most;
  reply = p.reply;
}
