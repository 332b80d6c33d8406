unfoldable pub use Rattle.case_reply.specs.Line.{RepliesToCase, WritesReply}
