-- What the examples verify a message under.
use Rattle.std.specs.Prelude.{false, List, []}
use Rattle.cose_map.specs.Key.Value.{KeyValue}
use Rattle.cose_msg.specs.declared.context.Wanted.TheVariants.{Tagged}
use Rattle.cose_msg.specs.Message.{Setting}
use Rattle.cose_msg.specs.Source.{attached}

-- These keys, no external data, messages with their own tag and no CWT tag before it, no label understood in addition to the
-- standard's, payloads of at most 4,096 bytes, in the message.
abbrev pub setting_under : List KeyValue → Setting
setting_under keys = record {
  keys = keys;
  aad = [];
  wanted = Tagged;
  cwt = false;
  understood = [];
  payload_limit = 4096;
  source = attached;
  elsewhere = false;
}
