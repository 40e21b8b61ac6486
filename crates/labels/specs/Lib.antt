pub mod LabelBits
