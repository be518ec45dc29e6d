-- What of a link's terms a peer's Attach changes: part 2, 2.6.3 and 2.7.3.
use Rattle.amqp_session_performatives.specs.declared.attach.Attach.{Attach}
use Rattle.amqp_link_base.specs.Size.{agreed_size}
use Rattle.amqp_link_base.specs.declared.terms.Terms.{Terms}

-- at the sending end: the receiver says where messages go and how it settles, and both say how large they are
abbrev pub adopted_by_sender : Terms → Attach → Terms
adopted_by_sender own peer = record own {
  target = peer.target;
  rcv_settle_mode = peer.rcv_settle_mode;
  max_message_size = agreed_size own.max_message_size peer.max_message_size;
}

-- at the receiving end: the sender says where messages come from and how it settles, and both say how large they are
abbrev pub adopted_by_receiver : Terms → Attach → Terms
adopted_by_receiver own peer = record own {
  source = peer.source;
  snd_settle_mode = peer.snd_settle_mode;
  max_message_size = agreed_size own.max_message_size peer.max_message_size;
}
