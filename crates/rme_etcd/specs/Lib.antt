-- What is sent to a node.
pub mod GatewayTexts
